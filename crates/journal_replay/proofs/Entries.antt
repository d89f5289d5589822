-- An entry done again.
use Rattle.std.specs.Prelude.{◌≡◌, ℕ, zero, suc, ◌+◌, ◌<◌, ◌≤◌, ◌⊎◌, Bool, true, false, MatchBool, MatchOption, List, ◌++◌, length, Option, Some, None, if◌then◌else◌, refl}
use Rattle.std.specs.Int.{from_bool}
use Rattle.std.proofs.Common.{ap, sym, ◌∙◌, subst, ⊎_elim, arith}
use Rattle.std.proofs.lemmas.List.{append-nil, append_assoc}
use Rattle.netlist.specs.declared.netlist.Module.{Module}
use Rattle.verilog_meaning.specs.Cycles.{Valuation, Choice, Runs}
use Rattle.verilog_meaning.specs.Threads.{alone, times, open_cycles, entry_choices, IsSame, Moves}
use Rattle.sim_layout.specs.Rounds.{threads_of}
use Rattle.sim_layout.specs.Running.{Running, Stands, state_of, IsSameNet}
use Rattle.cycle_sim.proofs.Same.{same_refl}
use Rattle.journal_text.specs.declared.entry.Entry.{Entry}
use Rattle.journal_laws.specs.Journal.{entry}
use Rattle.journal_laws.specs.Steps.{OfTop}
use Rattle.journal_laws.proofs.LoneCycles.{runs_append, times_more, moves_from}
use Rattle.journal_laws.proofs.Alike.{of_top, of_net}
use Rattle.journal_laws.proofs.Once.{moves_once}
use Rattle.journal_replay.specs.Replays.{needed, AreRedone, CannotRedo, IsEntryRedone, IsNoEntry}
use Rattle.journal_replay.proofs.RedoneEntries.{AreDone}

-- what a yes says, and what a no
pub said : (b : Bool) (A B : Type 0) → b ≡ true → MatchBool b A B → A
said true A B e m = m
said false A B e m = absurd cc

pub denied : (b : Bool) (A B : Type 0) → b ≡ false → MatchBool b A B → B
denied true A B e m = absurd cc
denied false A B e m = m

pub none_said : (A : Type 0) (o : Option A) (P : Type 0) (Q : A → Type 0) → o ≡ None → MatchOption o P Q → P
none_said A o P Q e m = subst (λ (x : Option A). MatchOption x P Q) e m

pub some_said : (A : Type 0) (o : Option A) (a : A) (P : Type 0) (Q : A → Type 0) → o ≡ Some a → MatchOption o P Q → Q a
some_said A o a P Q e m = subst (λ (x : Option A). MatchOption x P Q) e m

needed_is : (modules : List Module) (top : Module) (n : ℕ) (b : Bool) → open_cycles modules top n b ≡ needed b
needed_is modules top n true = refl
needed_is modules top n false = refl

choices_are : (modules : List Module) (top : Module) (n k : ℕ) (c : Choice) (b : Bool)
    → times modules top n k c ++ times modules top n (needed b) c ≡ times modules top n (if b then k + 1 else k) c
choices_are modules top n k c true = times_more modules top n k c ∙ ap (λ j. times modules top n j c) (let e : suc k ≡ k + 1 = omega arith in e)
choices_are modules top n k c false = append-nil (times modules top n k c)

pub long_times : (modules : List Module) (top : Module) (n k : ℕ) (c : Choice) → length (times modules top n k c) ≡ k
long_times modules top n zero c = refl
long_times modules top n (suc k) c = ap suc (long_times modules top n k c)

sums : (k : ℕ) (b : Bool) → k + needed b ≡ (if b then k + 1 else k)
sums k true = refl
sums k false = let e : k + 0 ≡ k = omega arith in e

pub from_needed : (b : Bool) → from_bool b ≡ needed b
from_needed true = refl
from_needed false = refl

at_most_one : (b : Bool) → needed b ≤ 1
at_most_one true = omega arith
at_most_one false = omega arith

module _ (old r : Running) (st : Stands old) (e : Entry) (net : IsSameNet old r) (before now : List ℕ) (done : AreDone old r e.thread false e.closed before now) where
  abbrev top : Module
  top = done.top

  abbrev ms : List Module
  ms = old.modules

  abbrev n : ℕ
  n = threads_of old.modules

  pub no_open : OfTop r (λ ms top n. CannotRedo ms top n e.thread true (needed e.opened) (state_of r)) → OfTop old (λ ms top n. IsNoEntry ms top n e (state_of old))
  no_open cannot =
      let o = of_top (λ ms top n. CannotRedo ms top n e.thread true (needed e.opened) (state_of r)) old
      (of_net (λ ms top n. CannotRedo ms top n e.thread true (needed e.opened) (state_of r)) old r net cannot) top done.is_top in
      record {
        top = top;
        is_top = done.is_top;
        holds = λ g l.
            let same : IsSame ms top n (state_of r) l.between =
            moves_once old st top done.is_top n 0 e.thread e.closed (state_of old) (state_of old) (state_of r) l.between (same_refl ms top (state_of old))
            (done.holds).moves l.closed in
            o g (moves_from ms top n e.thread 1 (needed e.opened) (state_of r) l.between g same
            (subst (λ (k : ℕ). Moves ms top n 1 e.thread k l.between g) (needed_is ms top n e.opened) l.open_));
      }

  pub entry_done : (new : Running) (after : List ℕ) (cycles : ℕ) → AreDone r new e.thread true (needed e.opened) now after → e.thread < n → e.closed ≤ 4096
      → (0 < e.closed) ⊎ (e.opened ≡ true)
      → cycles ≡ e.closed + needed e.opened → OfTop old (λ ms top n. IsEntryRedone ms top n e (state_of old) (state_of new) before after cycles)
  entry_done new after cycles opened below few some many =
      let P : Type 0 = AreRedone ms top n e.thread true (needed e.opened) (state_of r) (state_of new) now after in
      let x : P =
      of_top (λ ms top n. AreRedone ms top n e.thread true (needed e.opened) (state_of r) (state_of new) now after) old
      (of_net (λ ms top n. AreRedone ms top n e.thread true (needed e.opened) (state_of r) (state_of new) now after) old r net opened) top done.is_top in
      let d = done.holds in
      let open_ : Moves ms top n 1 e.thread (open_cycles ms top n e.opened) (state_of r) (state_of new) =
      subst (λ (k : ℕ). Moves ms top n 1 e.thread k (state_of r) (state_of new)) (sym (needed_is ms top n e.opened)) x.moves in
      let one : 0 < e.closed + open_cycles ms top n e.opened =
      ⊎_elim (λ (l : 0 < e.closed). omega (arith, l)) (λ (is : e.opened ≡ true). subst (λ (b : Bool). 0 < e.closed + open_cycles ms top n b) (sym is) (omega arith)) some in
      let choices : times ms top n e.closed (alone e.thread) ++ times ms top n (needed e.opened) (alone e.thread) ≡ entry_choices ms top n (entry ms top n e) =
      choices_are ms top n e.closed (alone e.thread) e.opened in record {
        top = top;
        is_top = done.is_top;
        holds = record {
          legal = record { thread = below; most = few; some = one; between = state_of r; closed = d.moves; open_ = open_ };
          bytes = d.bytes ++ x.bytes;
          runs = subst (λ (cs : List Choice). Runs ms top (state_of old) cs (state_of new) (d.bytes ++ x.bytes)) choices
              (runs_append ms top (times ms top n e.closed (alone e.thread)) (times ms top n (needed e.opened) (alone e.thread)) (state_of old) (state_of r) (state_of new)
              d.bytes x.bytes d.runs x.runs);
          appended = x.appended ∙ ap (λ z. z ++ x.bytes) d.appended ∙ append_assoc before d.bytes x.bytes;
          many = many ∙ sums e.closed e.opened ∙ sym (long_times ms top n (if e.opened then e.closed + 1 else e.closed) (alone e.thread));
        };
      }

-- an entry has no more than 4,097 cycles
pub few_cycles : (r : Running) (e : Entry) (h g : Valuation) (before after : List ℕ) (cycles : ℕ) → OfTop r (λ ms top n. IsEntryRedone ms top n e h g before after cycles)
    → cycles ≤ 4097
few_cycles r e h g before after cycles o =
    let x = o.holds in
    let most = (x.legal).most in
    let many : cycles ≡ e.closed + needed e.opened =
    x.many ∙ long_times r.modules o.top (threads_of r.modules) (if e.opened then e.closed + 1 else e.closed) (alone e.thread) ∙ sym (sums e.closed e.opened) in
    let one = at_most_one e.opened in omega (arith, most, many, one)
