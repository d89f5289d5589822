-- The ports of a core of n threads, part after part of an ask, each for one thread after the other.
use Rattle.std.proofs.Common.{◌≡◌, ℕ, zero, suc, ◌+◌, ◌*◌, ◌<◌, replicate, List, [], ◌∷◌, ◌++◌, length, map, take, Some, refl, sym, ap, ◌∙◌, arith, append_assoc, length-append}
use Rattle.std.specs.Prelude.{slice_get}
use Rattle.std.specs.List.{flat_map}
use Rattle.std.proofs.Math.Nat.{mul-suc}
use Rattle.std.proofs.lemmas.Option.{same_Some, none-some}
use Rattle.std.proofs.lemmas.List.{length-replicate}
use Rattle.top_parts.specs.declared.layout.Group.{Group}
use Rattle.top_wiring.specs.Parts.{group_widths}
use Rattle.core_tables.specs.Fits.{group}

-- numbers of these widths, each of n threads, and then others
abbrev pub ports : ℕ → List ℕ → List ℕ → List ℕ
ports n [] rest = rest
ports n (w ∷ widths) rest = replicate n w ++ ports n widths rest

abbrev pub inputs : ℕ → List ℕ → List ℕ
inputs n asks = 1 ∷ ports n asks (replicate n 1)

abbrev pub outputs : ℕ → List ℕ → List ℕ
outputs n told = replicate n 1 ++ flat_map (λ (w : ℕ). replicate n w) told

pub length-ports : (n : ℕ) (widths rest : List ℕ) → length (ports n widths rest) ≡ n * length widths + length rest
length-ports n [] rest = omega arith
length-ports n (w ∷ widths) rest =
    let a = length-append {A = ℕ} (replicate n w) (ports n widths rest) in
    let b = length-replicate {A = ℕ} n w in
    let c = length-ports n widths rest in
    let d = mul-suc n (length widths) in
    omega (arith, a, b, c, d)

-- as a layout has them: each a group of its own
pub joined : (n : ℕ) (widths rest : List ℕ) → flat_map (λ (g : Group). replicate (n * g.count) g.width) (map (group 1) widths) ++ rest ≡ ports n widths rest
joined n [] rest = refl
joined n (w ∷ widths) rest =
    let one : n * 1 ≡ n = omega arith in
    append_assoc (replicate (n * 1) w) (flat_map (λ (g : Group). replicate (n * g.count) g.width) (map (group 1) widths)) rest
    ∙ ap (λ k. replicate k w ++ (flat_map (λ (g : Group). replicate (n * g.count) g.width) (map (group 1) widths) ++ rest)) one
    ∙ ap (λ l. replicate n w ++ l) (joined n widths rest)

pub width_count : (widths : List ℕ) → length (group_widths (map (group 1) widths)) ≡ length widths
width_count [] = refl
width_count (w ∷ widths) = ap suc (width_count widths)

-- group g is part g of an ask
pub record IsPart (widths : List ℕ) (g : ℕ) (x : Group) : Type 0 where
  pub one : x.count ≡ 1
  pub before : length (group_widths (take g (map (group 1) widths))) ≡ g
  pub below : g < length widths

pub part_is : (widths : List ℕ) (g : ℕ) (x : Group) → slice_get (map (group 1) widths) g ≡ Some x → IsPart widths g x
part_is [] g x e = absurd (none-some x e)
part_is (w ∷ widths) zero x e = record { one = ap (λ (z : Group). z.count) (sym (same_Some (group 1 w) x e)); before = refl; below = omega arith }
part_is (w ∷ widths) (suc g) x e =
    let rest = part_is widths g x e in
    record { one = rest.one; before = ap suc rest.before; below = (let l = rest.below in omega (arith, l)) }
