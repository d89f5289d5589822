-- What the rows of a net do at the edge is what its actions do.
use Rattle.std.specs.Prelude.{◌≡◌, ℕ, ◌+◌, ◌-◌, ◌^◌, ◌<◌, Bool, true, false, ◌&&◌, nat_lt, if◌then◌else◌, List, [], ◌∷◌, ◌++◌, length, Option, Some, None, slice_get, slice_index, slice_set, refl}
use Rattle.std.proofs.Common.{ap, sym, ◌∙◌, subst, ⊎_elim, arith}
use Rattle.std.proofs.lemmas.List.{set_past}
use Rattle.std.proofs.Math.Nat.{min-eq_left, min-eq_right}
use Rattle.std.proofs.Math.ListN.{length-set}
use Rattle.netlist.specs.declared.netlist.Effect.{Effect}
use Rattle.netlist.specs.declared.netlist.Effect.TheVariants as effects
use Rattle.netlist.specs.declared.netlist.Action.{Action}
use Rattle.netlist.specs.declared.netlist.Module.{Module}
use Rattle.verilog_meaning.specs.Readings.{is_on, memory_words}
use Rattle.sim_values.specs.declared.value.Spot.{Spot}
use Rattle.sim_values.specs.declared.edge.Part.{Part}
use Rattle.sim_values.specs.Flat.{Flat, reading, set_number, stored_word, act_number, act_word, acted_numbers, acted_words, actions_of, all_numbers, part_words, all_words}
use Rattle.sim_values.proofs.Trees.{front_or_back}
use Rattle.sim_events.specs.declared.edge.EdgeRow.{EdgeRow}
use Rattle.sim_events.specs.Operations.{place}
use Rattle.sim_events.specs.Edges.{when_rows, effect_row, action_rows, actions_rows, part_rows, edge_rows, holds_after, set_after, stored_after, sets, stores}
use Rattle.sim_events.specs.Events.{flat_at}
use Rattle.sim_events.proofs.OperationResults.{word_at_place}

set_at_place : (next : List ℕ) (base x v : ℕ) → length next < 2 ^ 64 → slice_set next (place base x) v ≡ slice_set next (base + x) v
set_at_place next base x v few = ⊎_elim
    (λ (inside : base + x < 2 ^ 64). ap (λ z. slice_set next z v) (min-eq_left (omega (arith, inside))))
    (λ past.
    let d = past.1 in
    ap (λ z. slice_set next z v) (min-eq_right (omega (arith, d))) ∙ set_past next (2 ^ 64 - 1) v (omega (arith, few)) ∙ sym (set_past next (base + x) v (omega (arith, d, few))))
    (front_or_back (base + x) (2 ^ 64))

and_true : (b : Bool) → (b && true) ≡ b
and_true true = refl
and_true false = refl

and_and : (a b c : Bool) → ((a && b) && c) ≡ (a && (b && c))
and_and true b c = refl
and_and false b c = refl

module _ (numbers : List ℕ) where
  abbrev holds_behind : Bool → List EdgeRow → Bool
  holds_behind on [] = on
  holds_behind on (r ∷ rows) = holds_behind (holds_after numbers on r) rows

  sets_append : (xs ys : List EdgeRow) (on : Bool) (next : List ℕ) → sets numbers on next (xs ++ ys) ≡ sets numbers (holds_behind on xs) (sets numbers on next xs) ys
  sets_append [] ys on next = refl
  sets_append (r ∷ xs) ys on next = sets_append xs ys (holds_after numbers on r) (set_after numbers on next r)

  stores_append : (xs ys : List EdgeRow) (on : Bool) (words : List ℕ) → stores numbers on words (xs ++ ys) ≡ stores numbers (holds_behind on xs) (stores numbers on words xs) ys
  stores_append [] ys on words = refl
  stores_append (r ∷ xs) ys on words = stores_append xs ys (holds_after numbers on r) (stored_after numbers on words r)

  behind_append : (xs ys : List EdgeRow) (on : Bool) → holds_behind on (xs ++ ys) ≡ holds_behind (holds_behind on xs) ys
  behind_append [] ys on = refl
  behind_append (r ∷ xs) ys on = behind_append xs ys (holds_after numbers on r)

  -- ---- conditions change no word

  when_sets : (base : ℕ) (xs : List ℕ) (on : Bool) (next : List ℕ) → sets numbers on next (when_rows base xs) ≡ next
  when_sets base [] on next = refl
  when_sets base (x ∷ xs) on next = when_sets base xs (on && nat_lt 0 (slice_index numbers (place base x))) next

  when_stores : (base : ℕ) (xs : List ℕ) (on : Bool) (words : List ℕ) → stores numbers on words (when_rows base xs) ≡ words
  when_stores base [] on words = refl
  when_stores base (x ∷ xs) on words = when_stores base xs (on && nat_lt 0 (slice_index numbers (place base x))) words

  module _ (few : length numbers < 2 ^ 64) (words starts : List ℕ) where
    when_holds : (spot : Spot) (xs : List ℕ) (on : Bool) → holds_behind on (when_rows spot.base xs) ≡ (on && is_on (reading spot (flat_at numbers words starts)) xs)
    when_holds spot [] on = sym (and_true on)
    when_holds spot (x ∷ xs) on =
        when_holds spot xs (on && nat_lt 0 (slice_index numbers (place spot.base x)))
        ∙ and_and on (nat_lt 0 (slice_index numbers (place spot.base x))) (is_on (reading spot (flat_at numbers words starts)) xs)
        ∙ ap (λ z. on && (nat_lt 0 z && is_on (reading spot (flat_at numbers words starts)) xs)) (word_at_place numbers few spot.base x)

  effect_behind : (m : Module) (spot : Spot) (starts : List ℕ) (e : Effect) (on : Bool) → holds_after numbers on (effect_row m spot starts e) ≡ true
  effect_behind m spot starts (effects.Set x y) on = refl
  effect_behind m spot starts (effects.Store j x y) on = refl
  effect_behind m spot starts (effects.Write text arguments) on = refl

  action_behind : (m : Module) (spot : Spot) (starts : List ℕ) (a : Action) (on : Bool) → holds_behind on (action_rows m spot starts a) ≡ true
  action_behind m spot starts a on =
      behind_append (when_rows spot.base a.conditions) (effect_row m spot starts a.effect ∷ []) on
      ∙ effect_behind m spot starts a.effect (holds_behind on (when_rows spot.base a.conditions))

  actions_behind : (m : Module) (spot : Spot) (starts : List ℕ) (actions : List Action) → holds_behind true (actions_rows m spot starts actions) ≡ true
  actions_behind m spot starts [] = refl
  actions_behind m spot starts (a ∷ actions) =
      behind_append (action_rows m spot starts a) (actions_rows m spot starts actions) true
      ∙ ap (λ on. holds_behind on (actions_rows m spot starts actions)) (action_behind m spot starts a true) ∙ actions_behind m spot starts actions

  part_behind : (starts : List ℕ) (p : Part) (m : Option Module) → holds_behind true (part_rows starts p m) ≡ true
  part_behind starts p None = refl
  part_behind starts p (Some m) = actions_behind m p.spot starts m.actions

  -- ---- the next numbers

  module _ (few : length numbers < 2 ^ 64) (words starts : List ℕ) where
    abbrev f : Flat
    f = flat_at numbers words starts

    set_branch : (spot : Spot) (next : List ℕ) (x y : ℕ) → length next < 2 ^ 64 → (b : Bool)
        → (if b then slice_set next (place spot.base x) (slice_index numbers (place spot.base y)) else next) ≡ (if b then slice_set next (spot.base + x) (slice_index numbers (spot.base + y)) else next)
    set_branch spot next x y room true =
        set_at_place next spot.base x (slice_index numbers (place spot.base y)) room ∙ ap (λ z. slice_set next (spot.base + x) z) (word_at_place numbers few spot.base y)
    set_branch spot next x y room false = refl

    if_same : (next : List ℕ) (b : Bool) → next ≡ (if b then next else next)
    if_same next true = refl
    if_same next false = refl

    effect_sets : (m : Module) (spot : Spot) (next : List ℕ) (e : Effect) → length next < 2 ^ 64 → (b : Bool)
        → set_after numbers b next (effect_row m spot starts e) ≡ (if b then set_number spot f next e else next)
    effect_sets m spot next (effects.Set x y) room b = set_branch spot next x y room b
    effect_sets m spot next (effects.Store j x y) room b = if_same next b
    effect_sets m spot next (effects.Write text arguments) room b = if_same next b

    action_sets : (m : Module) (spot : Spot) (next : List ℕ) (a : Action) → length next < 2 ^ 64 → sets numbers true next (action_rows m spot starts a) ≡ act_number spot f next a
    action_sets m spot next a room =
        sets_append (when_rows spot.base a.conditions) (effect_row m spot starts a.effect ∷ []) true next
        ∙ ap (λ n. set_after numbers (holds_behind true (when_rows spot.base a.conditions)) n (effect_row m spot starts a.effect)) (when_sets spot.base a.conditions true next)
        ∙ ap (λ on. set_after numbers on next (effect_row m spot starts a.effect)) (when_holds few words starts spot a.conditions true)
        ∙ effect_sets m spot next a.effect room (is_on (reading spot f) a.conditions)

    set_long : (spot : Spot) (next : List ℕ) (e : Effect) (b : Bool) → length (if b then set_number spot f next e else next) ≡ length next
    set_long spot next (effects.Set x y) true = length-set next (spot.base + x) (slice_index numbers (spot.base + y))
    set_long spot next (effects.Store j x y) true = refl
    set_long spot next (effects.Write text arguments) true = refl
    set_long spot next e false = refl

    act_long : (spot : Spot) (next : List ℕ) (a : Action) → length (act_number spot f next a) ≡ length next
    act_long spot next a = set_long spot next a.effect (is_on (reading spot f) a.conditions)

    acted_long : (spot : Spot) (actions : List Action) (next : List ℕ) → length (acted_numbers spot f next actions) ≡ length next
    acted_long spot [] next = refl
    acted_long spot (a ∷ actions) next = acted_long spot actions (act_number spot f next a) ∙ act_long spot next a

    actions_set : (m : Module) (spot : Spot) (actions : List Action) (next : List ℕ) → length next < 2 ^ 64
        → sets numbers true next (actions_rows m spot starts actions) ≡ acted_numbers spot f next actions
    actions_set m spot [] next room = refl
    actions_set m spot (a ∷ actions) next room =
        sets_append (action_rows m spot starts a) (actions_rows m spot starts actions) true next
        ∙ ap (λ on. sets numbers on (sets numbers true next (action_rows m spot starts a)) (actions_rows m spot starts actions)) (action_behind m spot starts a true)
        ∙ ap (λ n. sets numbers true n (actions_rows m spot starts actions)) (action_sets m spot next a room)
        ∙ actions_set m spot actions (act_number spot f next a) (subst (λ n. n < 2 ^ 64) (sym (act_long spot next a)) room)

    part_sets : (p : Part) (m : Option Module) (next : List ℕ) → length next < 2 ^ 64 → sets numbers true next (part_rows starts p m) ≡ acted_numbers p.spot f next (actions_of m)
    part_sets p None next room = refl
    part_sets p (Some m) next room = actions_set m p.spot m.actions next room

    pub edge_sets : (modules : List Module) (parts : List Part) (next : List ℕ) → length next < 2 ^ 64
        → sets numbers true next (edge_rows modules starts parts) ≡ all_numbers modules f next parts
    edge_sets modules [] next room = refl
    edge_sets modules (p ∷ parts) next room =
        sets_append (part_rows starts p (slice_get modules p.module)) (edge_rows modules starts parts) true next
        ∙ ap (λ on. sets numbers on (sets numbers true next (part_rows starts p (slice_get modules p.module))) (edge_rows modules starts parts)) (part_behind starts p (slice_get modules p.module))
        ∙ ap (λ n. sets numbers true n (edge_rows modules starts parts)) (part_sets p (slice_get modules p.module) next room)
        ∙ edge_sets modules parts (acted_numbers p.spot f next (actions_of (slice_get modules p.module)))
        (subst (λ n. n < 2 ^ 64) (sym (acted_long p.spot (actions_of (slice_get modules p.module)) next)) room)

  -- ---- the words of memories

  module _ (few : length numbers < 2 ^ 64) (starts : List ℕ) where
    same_words : (words : List ℕ) (b : Bool) → words ≡ (if b then words else words)
    same_words words true = refl
    same_words words false = refl

    effect_stores : (m : Module) (spot : Spot) (words : List ℕ) (e : Effect) (b : Bool)
        → stored_after numbers b words (effect_row m spot starts e) ≡ (if b then stored_word m spot (flat_at numbers words starts) e else words)
    effect_stores m spot words (effects.Set x y) b = same_words words b
    effect_stores m spot words (effects.Store j x y) b =
        ap (λ z. if b then (if nat_lt z (memory_words (slice_get m.memories j))
        then slice_set words (slice_index starts (spot.memories + j) + z) (slice_index numbers (place spot.base y)) else words) else words) (word_at_place numbers few spot.base x)
        ∙ ap (λ z. if b then (if nat_lt (slice_index numbers (spot.base + x)) (memory_words (slice_get m.memories j))
        then slice_set words (slice_index starts (spot.memories + j) + slice_index numbers (spot.base + x)) z else words) else words) (word_at_place numbers few spot.base y)
    effect_stores m spot words (effects.Write text arguments) b = same_words words b

    action_stores : (m : Module) (spot : Spot) (words : List ℕ) (a : Action) → stores numbers true words (action_rows m spot starts a) ≡ act_word m spot (flat_at numbers words starts) a
    action_stores m spot words a =
        stores_append (when_rows spot.base a.conditions) (effect_row m spot starts a.effect ∷ []) true words
        ∙ ap (λ n. stored_after numbers (holds_behind true (when_rows spot.base a.conditions)) n (effect_row m spot starts a.effect)) (when_stores spot.base a.conditions true words)
        ∙ ap (λ on. stored_after numbers on words (effect_row m spot starts a.effect)) (when_holds few words starts spot a.conditions true)
        ∙ effect_stores m spot words a.effect (is_on (reading spot (flat_at numbers words starts)) a.conditions)

    actions_store : (m : Module) (spot : Spot) (actions : List Action) (words : List ℕ)
        → stores numbers true words (actions_rows m spot starts actions) ≡ acted_words m spot (flat_at numbers words starts) actions
    actions_store m spot [] words = refl
    actions_store m spot (a ∷ actions) words =
        stores_append (action_rows m spot starts a) (actions_rows m spot starts actions) true words
        ∙ ap (λ on. stores numbers on (stores numbers true words (action_rows m spot starts a)) (actions_rows m spot starts actions)) (action_behind m spot starts a true)
        ∙ ap (λ n. stores numbers true n (actions_rows m spot starts actions)) (action_stores m spot words a)
        ∙ actions_store m spot actions (act_word m spot (flat_at numbers words starts) a)

    part_stores : (p : Part) (m : Option Module) (words : List ℕ) → stores numbers true words (part_rows starts p m) ≡ part_words p (flat_at numbers words starts) m
    part_stores p None words = refl
    part_stores p (Some m) words = actions_store m p.spot m.actions words

    pub edge_stores : (modules : List Module) (parts : List Part) (words : List ℕ)
        → stores numbers true words (edge_rows modules starts parts) ≡ all_words modules (flat_at numbers words starts) parts
    edge_stores modules [] words = refl
    edge_stores modules (p ∷ parts) words =
        stores_append (part_rows starts p (slice_get modules p.module)) (edge_rows modules starts parts) true words
        ∙ ap (λ on. stores numbers on (stores numbers true words (part_rows starts p (slice_get modules p.module))) (edge_rows modules starts parts)) (part_behind starts p (slice_get modules p.module))
        ∙ ap (λ n. stores numbers true n (edge_rows modules starts parts)) (part_stores p (slice_get modules p.module) words)
        ∙ edge_stores modules parts (part_words p (flat_at numbers words starts) (slice_get modules p.module))
