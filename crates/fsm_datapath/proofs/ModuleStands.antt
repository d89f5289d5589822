-- The module in a table of modules: its ports.
use Rattle.std.proofs.Common.{◌≡◌, ℕ, zero, suc, ◌+◌, ◌-◌, ◌<◌, ◌≤◌, ◌⊎◌, false, List, [], ◌∷◌, ◌++◌, length, map, slice_get, Some, refl, sym, ap, subst, ◌∙◌, arith}
use Rattle.std.proofs.Common.{inl, inr, ⊎_elim, length-append}
use Rattle.std.specs.Prelude.{replicate, option_map}
use Rattle.std.proofs.lemmas.Bool.{cases_lt, lt-ltb}
use Rattle.std.proofs.lemmas.List.{length-replicate}
use Rattle.std.proofs.lemmas.Option.{slice_get_within, slice_get-map, same_Some}
use Rattle.lists.proofs.Places.{get_there, get_right, get_left}
use Rattle.hls_ints.specs.Types.{width_of}
use Rattle.verilog_tree.specs.Scope.{is_clk}
use Rattle.block_ir.specs.declared.code.ThreadCode.{ThreadCode}
use Rattle.block_ir.specs.declared.plan.Planned.{Planned}
use Rattle.netlist.specs.declared.netlist.Action.{Action}
use Rattle.netlist.specs.declared.netlist.Source.{Source}
use Rattle.netlist.specs.declared.netlist.Source.TheVariants.{Input}
use Rattle.netlist.specs.declared.netlist.Module.{Module}
use Rattle.circuit.specs.Rows.{EachOf}
use Rattle.circuit.specs.Modules.{Has}
use Rattle.leaf_machine.specs.Standing.{IsSilent}
use Rattle.leaf_machine.specs.Ports.{asks_of, told_of, thread_inputs, thread_outputs, IsRoutineModule}
use Rattle.module_sound.specs.Grades.{ActsRight}
use Rattle.thread_promise.specs.Globals.{bank_total}
use Rattle.thread_slots.specs.Services.{news_widths}
use Rattle.fsm_datapath.proofs.ToldByCores.{told_all}
use Rattle.thread_slots.specs.declared.shape.Shape.{Shape}
use Rattle.thread_slots.specs.Slots.{StandsAt}
use Rattle.thread_layout.specs.Early.{spread_out}
use Rattle.thread_layout.specs.Outputs.{joined}
use Rattle.thread_layout.specs.Leaf.{leaf_of}
use Rattle.thread_layout.specs.Modules.{IsModule}
use Rattle.thread_layout.specs.Thread.{cores_of, inputs_of, core_ports, first_output, need_at, done_at, IsServed}
use Rattle.fsm_datapath.specs.SoundLeaf.{IsLeafOf}
use Rattle.thread_slots.proofs.LaidRegisters.{stands_later}
use Rattle.thread_layout.proofs.Placed.{rows, widths_are, ports_count, row_copies, all_long, enable_stands, grant_stands, need_stands, done_stands, from_ports, from_words, from_inputs}
use Rattle.thread_layout.proofs.Placed.{ports_long, bank_count}
use Rattle.thread_layout.proofs.CoreRows.{row_width, all_widths, all_count}

silent_each : (m : Module) (actions : List Action) → EachOf (ActsRight m) actions → EachOf IsSilent actions
silent_each m [] h = tt
silent_each m (a ∷ actions) h = (h.0.sets.silent, silent_each m actions h.1)

-- ---- lists

among : (n v : ℕ) (rest : List ℕ) (y w : ℕ) → slice_get (replicate n v ++ rest) y ≡ Some w → ((y < n) × (w ≡ v)) ⊎ ((i : ℕ) × (y ≡ n + i) × (slice_get rest i ≡ Some w))
among zero v rest y w e = inr (y, (let q : y ≡ 0 + y = omega arith in q), e)
among (suc n) v rest zero w e = inl ((let l : 0 < suc n = omega arith in l), sym (same_Some v w e))
among (suc n) v rest (suc y) w e =
    ⊎_elim (λ t. inl ((let l = t.0 in omega (arith, l)), t.1)) (λ t. inr (t.0, (let q = t.1 in omega (arith, q)), t.2)) (among n v rest y w e)

split : (xs ys : List ℕ) (i w : ℕ) → slice_get (xs ++ ys) i ≡ Some w → ((i < length xs) × (slice_get xs i ≡ Some w)) ⊎ ((j : ℕ) × (i ≡ length xs + j) × (slice_get ys j ≡ Some w))
split [] ys i w e = inr (i, (let q : i ≡ 0 + i = omega arith in q), e)
split (x ∷ xs) ys zero w e = inl ((let l : 0 < suc (length xs) = omega arith in l), e)
split (x ∷ xs) ys (suc i) w e =
    ⊎_elim (λ t. inl ((let l = t.0 in omega (arith, l)), t.1)) (λ t. inr (t.0, (let q = t.1 in omega (arith, q)), t.2)) (split xs ys i w e)

module _ (shape : Shape) (code : ThreadCode) (plan : Planned) (m : Module) (t : IsModule shape code plan m) (served : IsServed shape code plan) where
  abbrev banks : ℕ
  banks = bank_total shape.spreads

  abbrev words : List ℕ
  words = spread_out shape.spreads (map width_of shape.globals)

  has_of : (place w : ℕ) (d : Source) → StandsAt m.signals place w d → Has m place w
  has_of place w d s = record { signal = s.signal; listed = s.listed; wide = s.wide }

  -- ---- inputs

  clock_has : Has m 0 1
  clock_has = has_of 0 1 Input (stands_later t.laid.with_ports m.signals 0 1 Input (from_ports shape code plan m t served) t.laid.inputs.clock)

  grant_has : (k : ℕ) → k < cores_of shape → Has m (2 + k) 1
  grant_has k less = has_of (2 + k) 1 Input (grant_stands shape code plan m t served k less)

  word_has : (n w : ℕ) → slice_get words n ≡ Some w → Has m (2 + cores_of shape + n) w
  word_has n w there =
      let f = t.laid.words.each n w (slice_get_within words n w there) there in
      let place : length t.laid.with_ports + n ≡ 2 + cores_of shape + n = (let e = ports_long shape code plan m t served in omega arith) in
      has_of (2 + cores_of shape + n) w Input
      (subst (λ (k : ℕ). StandsAt m.signals k w Input) place
      (stands_later t.laid.with_words m.signals (length t.laid.with_ports + n) w Input (from_words shape code plan m t served) f.4))

  news_has : (n w : ℕ) → slice_get (news_widths shape.served) n ≡ Some w → Has m (2 + cores_of shape + (length words + n)) w
  news_has n w there =
      let f = t.laid.news_stand.each n w (slice_get_within (news_widths shape.served) n w there) there in
      let long = t.laid.words.long in
      let ports = ports_long shape code plan m t served in
      let place : length t.laid.with_words + n ≡ 2 + cores_of shape + (length words + n) = omega arith in
      has_of (2 + cores_of shape + (length words + n)) w Input
      (subst (λ (k : ℕ). StandsAt m.signals k w Input) place
      (stands_later t.laid.with_inputs m.signals (length t.laid.with_words + n) w Input (from_inputs shape code plan m t served) f.4))

  told_has : (n w : ℕ) → slice_get (told_of (core_ports shape)) n ≡ Some w → Has m (2 + cores_of shape + n) w
  told_has n w there =
      ⊎_elim (λ g. word_has n w g.1) (λ g. subst (λ k. Has m (2 + cores_of shape + k) w) (sym g.1) (news_has g.0 w g.2))
      (split words (news_widths shape.served) n w (ap (λ l. slice_get l n) (sym (told_all words shape.served)) ∙ there))

  at_input : (x w : ℕ) → slice_get (thread_inputs (core_ports shape)) x ≡ Some w → Has m x w
  at_input zero w e = subst (Has m 0) (same_Some 1 w e) clock_has
  at_input (suc zero) w e = subst (Has m 1) (same_Some 1 w e) (has_of 1 1 Input (enable_stands shape code plan m t served))
  at_input (suc (suc y)) w e =
      let count = ports_count shape code plan m t served in
      ⊎_elim
      (λ g.
      let less = g.0 in
      let at : 2 + y ≡ suc (suc y) = omega arith in
      subst (Has m (suc (suc y))) (sym g.1) (subst (λ n. Has m n 1) at (grant_has y (omega arith))))
      (λ g.
      let place = g.1 in
      let at : 2 + cores_of shape + g.0 ≡ suc (suc y) = omega arith in
      subst (λ n. Has m n w) at (told_has g.0 w g.2))
      (among (length (core_ports shape)) 1 (told_of (core_ports shape)) y w e)

  inputs_long : inputs_of shape ≡ length (thread_inputs (core_ports shape))
  inputs_long =
      let one : ℕ = 1 in
      let all = length-append (replicate (length (core_ports shape)) one) (told_of (core_ports shape)) in
      let grants = length-replicate (length (core_ports shape)) one in
      let count = ports_count shape code plan m t served in
      let told : length (told_of (core_ports shape)) ≡ length words + length (news_widths shape.served) =
      ap length (told_all words shape.served) ∙ length-append words (news_widths shape.served) in
      let banked : length words ≡ banks = bank_count shape code plan m t served in
      omega arith

  -- ---- outputs

  at_output : (x w : ℕ) → slice_get (thread_outputs (core_ports shape)) x ≡ Some w → Has m (first_output shape m + x) w
  at_output x w e = ⊎_elim asks behind (cases_lt x (length (asks_of (core_ports shape))))
    where
      asks : x < length (asks_of (core_ports shape)) → Has m (first_output shape m + x) w
      asks less =
          let count = all_count (rows shape code plan m t served) (core_ports shape) (widths_are shape code plan m t served) in
          let found = get_there (joined (rows shape code plan m t served)) x (omega arith) in
          let own : slice_get (asks_of (core_ports shape)) x ≡ Some (row_width found.0) =
          ap (λ l. slice_get l x) (all_widths (rows shape code plan m t served) (core_ports shape) (widths_are shape code plan m t served))
          ∙ slice_get-map row_width (joined (rows shape code plan m t served)) x ∙ ap (option_map row_width) found.1 in
          let its : slice_get (asks_of (core_ports shape)) x ≡ Some w = sym (get_left (asks_of (core_ports shape)) (1 ∷ 1 ∷ []) x less) ∙ e in
          let wide : row_width found.0 ≡ w = cc in
          subst (Has m (first_output shape m + x)) wide (has_of (first_output shape m + x) found.0.width _ (row_copies shape code plan m t served x found.0 found.1))

      last : (i : ℕ) → x ≡ length (asks_of (core_ports shape)) + i → slice_get {X = ℕ} (1 ∷ 1 ∷ []) i ≡ Some w → Has m (first_output shape m + x) w
      last zero at there =
          let place : need_at shape m ≡ first_output shape m + x = omega arith in
          subst (λ n. Has m n w) place (subst (Has m (need_at shape m)) (same_Some 1 w there) (has_of (need_at shape m) 1 _ (need_stands shape code plan m t served)))
      last (suc zero) at there =
          let place : done_at shape m ≡ first_output shape m + x = omega arith in
          subst (λ n. Has m n w) place (subst (Has m (done_at shape m)) (same_Some 1 w there) (has_of (done_at shape m) 1 _ (done_stands shape code plan m t served)))
      last (suc (suc i)) at there = absurd cc

      behind : length (asks_of (core_ports shape)) ≤ x → Has m (first_output shape m + x) w
      behind le =
          let i : ℕ = x - length (asks_of (core_ports shape)) in
          let at : length (asks_of (core_ports shape)) + i ≡ x = omega arith in
          last i (sym at) (sym (get_right (asks_of (core_ports shape)) (1 ∷ 1 ∷ []) i) ∙ ap (slice_get (thread_outputs (core_ports shape))) at ∙ e)

  -- ---- the module

  pub routine_is : is_clk shape.name ≡ false → IsLeafOf shape m → IsRoutineModule shape.name (core_ports shape) m (inputs_of shape) (leaf_of shape m)
  routine_is plain leaf = record {
    named = t.named;
    stands = record {
      alone = t.alone;
      interface = record {
        ports = record { inputs_are = at_input; outputs_are = at_output };
        input_count = leaf.alone.input_count ∙ inputs_long;
        output_count = (let n = leaf.alone.output_count in let long = all_long shape code plan m t served in omega (arith, n, long));
        clock = leaf.alone.clock;
      };
      laid = leaf.alone.laid;
      sound = leaf.alone.sound (ap is_clk t.named ∙ plain);
    };
    silent = silent_each m m.actions leaf.acts;
    inputs_are = inputs_long;
    uses = λ k less. lt-ltb k (length (core_ports shape)) less;
    enable = refl;
    grant = λ k less. refl;
    told = λ k j p listed less. refl;
    ask = λ k j p listed less. refl;
    need = refl;
    done = refl;
  }
