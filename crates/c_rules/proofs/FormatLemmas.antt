-- A format by the parts of what is left of it.
use Rattle.std.proofs.Common.{◌≡◌, ◌≢◌, refl, sym, ap, ◌∙◌, ℕ, zero, suc, ◌+◌, ◌-◌, ◌<◌, ◌≤◌, List, [], ◌∷◌, length, Option, Some, None, arith}
use Rattle.std.specs.Prelude.{option_and_then}
use Rattle.std.proofs.lemmas.List.{nil_from_length}
use Rattle.c_program.specs.Tree.{Piece}
use Rattle.c_rules.specs.declared.format.Part.{Part}
use Rattle.c_rules.specs.Formats.{Draft, flushed, with_part, first_part, pieces_from}

pub pieces_from-end : (n : ℕ) (d : Draft) (left : List ℕ) → left ≡ [] → pieces_from n d left ≡ Some (flushed d.0 d.1)
unfolding pieces_from
pieces_from-end n d [] is = refl
pieces_from-end n d (byte ∷ rest) is = cc

pub pieces_from-none : (d : Draft) (left : List ℕ) → left ≢ [] → pieces_from 0 d left ≡ None
unfolding pieces_from
pieces_from-none d [] apart = absurd (apart refl)
pieces_from-none d (byte ∷ rest) apart = refl

pub pieces_from-stuck : (n : ℕ) (d : Draft) (left : List ℕ) → left ≢ [] → first_part left ≡ None → pieces_from n d left ≡ None
unfolding pieces_from
pieces_from-stuck n d [] apart is = absurd (apart refl)
pieces_from-stuck zero d (byte ∷ rest) apart is = refl
pieces_from-stuck (suc n) d (byte ∷ rest) apart is = ap (option_and_then (λ (p : Part × List ℕ). pieces_from n (with_part d.0 d.1 p.0) p.1)) is

pub pieces_from-next : (n : ℕ) (d : Draft) (left : List ℕ) (p : Part × List ℕ) → left ≢ [] → first_part left ≡ Some p →
    pieces_from (suc n) d left ≡ pieces_from n (with_part d.0 d.1 p.0) p.1
unfolding pieces_from
pieces_from-next n d [] p apart is = absurd (apart refl)
pieces_from-next n d (byte ∷ rest) p apart is = ap (option_and_then (λ (p : Part × List ℕ). pieces_from n (with_part d.0 d.1 p.0) p.1)) is

pub one_turn : (n i : ℕ) → i < n → n - i ≡ suc (n - (i + 1))
one_turn n i lt = omega arith

pub apart_of : (xs : List ℕ) → length xs ≢ 0 → xs ≢ []
apart_of xs apart is = apart (ap length is)

pub next_of : (n i : ℕ) (d e : Draft) (left rest : List ℕ) (part : Part) (whole : Option (List Piece)) →
    i < n → length left ≢ 0 → Some (part, rest) ≡ first_part left → e ≡ with_part d.0 d.1 part →
    whole ≡ pieces_from (n - i) d left → whole ≡ pieces_from (n - (i + 1)) e rest
next_of n i d e left rest part whole lt apart is then so_far =
    so_far ∙ ap (λ k. pieces_from k d left) (one_turn n i lt)
    ∙ pieces_from-next (n - (i + 1)) d left (part, rest) (apart_of left apart) (sym is)
    ∙ ap (λ x. pieces_from (n - (i + 1)) x rest) (sym then)

pub end_of : (n : ℕ) (d : Draft) (left : List ℕ) (whole : Option (List Piece)) → length left ≡ 0 → whole ≡ pieces_from n d left → whole ≡ Some (flushed d.0 d.1)
end_of n d left whole is so_far = so_far ∙ pieces_from-end n d left (nil_from_length left is)

pub stuck_of : (n : ℕ) (d : Draft) (left : List ℕ) (whole : Option (List Piece)) → length left ≢ 0 → None ≡ first_part left → whole ≡ pieces_from n d left → None ≡ whole
stuck_of n d left whole apart is so_far = sym (so_far ∙ pieces_from-stuck n d left (apart_of left apart) (sym is))

pub rest_of : (n i : ℕ) (d : Draft) (left : List ℕ) (whole : Option (List Piece)) → n ≤ i → length left ≢ 0 → whole ≡ pieces_from (n - i) d left → None ≡ whole
rest_of n i d left whole le apart so_far =
    let none : n - i ≡ 0 = omega arith in
    sym (so_far ∙ ap (λ k. pieces_from k d left) none ∙ pieces_from-none d left (apart_of left apart))
