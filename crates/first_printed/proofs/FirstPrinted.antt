-- The hardware of the first example prints 42.
use Rattle.std.proofs.Common.{◌≡◌, ℕ, ◌+◌, ◌/◌, ◌≤◌, ◌⊎◌, inl, inr, List, [], ◌∷◌, ◌++◌, length, take, refl, ap, sym, ◌∙◌, subst, arith}
use Rattle.std.specs.Prelude.{true, codes}
use Rattle.std.specs.List.{All}
use Rattle.c_program.specs.Weight.{bound}
use Rattle.netlist.specs.NetlistOf.{netlist_of}
use Rattle.netlist.specs.declared.netlist.Module.{Module}
use Rattle.thread_semantics.specs.Step.{IsDeadlocked}
use Rattle.verilog_meaning.specs.Cycles.{Valuation, Choice, Reaches, ShowsDone, initial_state}
use Rattle.verilog_meaning.specs.Threads.{IsChoice, all_enabled, Counted}
use Rattle.verilog_meaning.specs.Follows.{Follows, Matches, Lively}
use Rattle.sim_layout.specs.Rounds.{rounds}
use Rattle.cycle_sim.proofs.RoundChoices.{length-rounds, rounds_are_choices, rounds_enable_all}
use Rattle.good_programs.specs.Samples.{first}
use Rattle.good_programs.proofs.First.{first_is_good}
use Rattle.good_verilog.specs.GoodVerilog.{IsGoodVerilog}
use Rattle.good_verilog.specs.Program.{seen_of}
use Rattle.first_printed.specs.Printed.{FirstPrints, RoundsPrint}
use Rattle.first_printed.proofs.FiveSteps.{taken, printed, never_deadlocked}
use Rattle.first_printed.proofs.AllCounted.{all_counted}

bound_is : bound first ≡ 448
bound_is = refl

take_all : {A : Type 0} (xs : List A) → take (length xs) xs ≡ xs
take_all [] = refl
take_all (x ∷ xs) = ap (λ l. x ∷ l) (take_all xs)

module _ (text : List ℕ) (good : IsGoodVerilog first text) (choices : List Choice) (long : length choices ≡ 3136) (fit : All (IsChoice 1) choices)
    (on : All (λ c. c.mask ≡ 1) choices) where
  abbrev modules : List Module
  modules = (netlist_of good.net).modules

  abbrev top : Module
  top = good.top

  follows : Follows modules top 1 (seen_of first) choices
  follows = good.follows first_is_good choices fit

  module _ (h : Valuation) (out : List ℕ) (reached : Reaches modules top choices h out) where
    same : take 3136 choices ≡ choices
    same = ap (λ n. take n choices) (sym long) ∙ take_all choices

    abbrev steps : List ℕ
    steps = take (follows.steps 3136) follows.interleaving

    matched : Matches modules top 1 (seen_of first) (take 3136 choices) h out steps
    matched = follows.matches 3136 h out (omega (arith, long)) (subst (λ cs. Reaches modules top cs h out) (sym same) reached)

    shown : matched.state.ended ≡ true → (out ≡ codes "42" ++ 10 ∷ []) × ShowsDone modules top h (all_enabled 1 []) 1
    shown ended = (matched.printed ∙ printed steps matched.state matched.after ended, matched.done.1 ended)

    counted : Counted modules top 1 (initial_state modules top) (take 3136 choices) 3136
    counted =
        subst (λ cs. Counted modules top 1 (initial_state modules top) cs 3136) (sym same)
        (subst (λ n. Counted modules top 1 (initial_state modules top) choices n) long
        (all_counted modules top 1 choices (initial_state modules top) h out reached on))

    too_many : 3136 / bound first ≤ length steps + 1 → ⊥
    too_many more =
        let t = taken steps matched.state matched.after in
        let few = t.few in let count = t.long in
        let seven : 7 ≤ length steps + 1 = subst (λ b. 3136 / b ≤ length steps + 1) bound_is more in
        omega (arith, few, count, seven)

    pub ends : (out ≡ codes "42" ++ 10 ∷ []) × ShowsDone modules top h (all_enabled 1 []) 1
    ends = here matched.progress
      where
        here : (matched.state.ended ≡ true)
            ⊎ (IsDeadlocked first matched.state
            ⊎ (Lively modules top 1 (seen_of first) h
            × ((m : ℕ) → Counted modules top 1 (initial_state modules top) (take 3136 choices) m → m / bound first ≤ length steps + 1)))
            → (out ≡ codes "42" ++ 10 ∷ []) × ShowsDone modules top h (all_enabled 1 []) 1
        here (inl ended) = shown ended
        here (inr (inl stuck)) = absurd (never_deadlocked steps matched.state matched.after stuck)
        here (inr (inr lively)) = absurd (too_many (lively.1 3136 counted))

pub first_prints : FirstPrints
first_prints text good choices long fit on =
    let run = good.runs choices fit in
    record { state = run.0; out = run.1; reached = run.2; printed = λ h out reached. ends text good choices long fit on h out reached }

pub rounds_print : RoundsPrint
rounds_print text good prefs =
    first_prints text good (rounds 1 prefs 3136) (length-rounds 1 prefs 3136) (rounds_are_choices 1 prefs 3136) (rounds_enable_all 1 prefs 3136)
