-- Parts of a list of codes, and the plans that are made of each.
use Rattle.std.proofs.Common.{◌≡◌, ℕ, suc, ◌+◌, ◌-◌, ◌/◌, ◌<◌, List, [], ◌∷◌, ◌++◌, length, refl, sym, subst, ap, ◌∙◌, append_assoc, arith}
use Rattle.std.proofs.lemmas.List.{append-nil, nil_from_length}
use Rattle.std.specs.Prelude.{Result, Ok, Err, IfOk, slice_index_or}
use Rattle.std.specs.declared.alloc.AllocError.{AllocError}
use denote.Ref.{Bor}
use Rattle.block_ir.specs.declared.code.ThreadCode.{ThreadCode}
use Rattle.block_ir.specs.declared.plan.Planned.{Planned}
use Rattle.fsm_plan.specs.Plans.{ArePlanned}
use Rattle.fsm_plan.specs.Shares.{codes_of, AreJoined}
use Rattle.fsm_plan.proofs.Lists.{planned-append}

-- ---- shares of codes

pub codes_of-append : (ss : List (Bor (List ThreadCode))) (s : Bor (List ThreadCode)) (rest codes later : List ThreadCode) → codes_of ss ++ rest ≡ codes → rest ≡ s.now ++ later →
    codes_of (ss ++ s ∷ []) ++ later ≡ codes
codes_of-append ss s rest codes later e f = ap (λ (z : List ThreadCode). z ++ later) (one_more ss) ∙ append_assoc (codes_of ss) s.now later ∙ ap (λ (z : List ThreadCode). codes_of ss ++ z) (sym f) ∙ e
  where
    one_more : (ts : List (Bor (List ThreadCode))) → codes_of (ts ++ s ∷ []) ≡ codes_of ts ++ s.now
    one_more [] = append-nil s.now
    one_more (t ∷ ts) = ap (λ (z : List ThreadCode). t.now ++ z) (one_more ts) ∙ sym (append_assoc t.now (codes_of ts) s.now)

-- the last share is all that is left
pub nothing_left : (rest later : List ThreadCode) (count number : ℕ) → number + 1 ≡ count → length later + length rest / (count - number) ≡ length rest → later ≡ []
nothing_left rest later count number last len =
    let one : count - number ≡ 1 = omega (arith, last) in
    let all : length rest / 1 ≡ length rest = omega arith in
    let taken = ap (λ (k : ℕ). length rest / k) one ∙ all in
    nil_from_length later (omega (arith, len, taken))

-- ---- parts that are joined

abbrev Part : Type 0
Part = Result (List Planned) AllocError

joined-append : (parts : List Part) (plans part : List Planned) → AreJoined parts plans → AreJoined (parts ++ Ok part ∷ []) (plans ++ part)
joined-append [] plans part h = ([], rw h (sym (append-nil part)), refl)
joined-append (Ok first ∷ parts) plans part h =
    (h.0 ++ part, ap (λ (z : List Planned). z ++ part) h.1 ∙ append_assoc first h.0 part, joined-append parts h.0 part h.2)
joined-append (Err e ∷ parts) plans part h = absurd h

pub next_joined : (parts : List Part) (r : Part) (part plans more : List Planned) → r ≡ Ok part → AreJoined parts plans → more ≡ plans ++ part → AreJoined (parts ++ r ∷ []) more
next_joined parts r part plans more made h f = rw (made, f) (joined-append parts plans part h)

-- ---- a part for each share

-- the plans of each share, where they were made
abbrev EachMade : List (Bor (List ThreadCode)) → List Part → Type 0
EachMade [] [] = Unit {0}
EachMade (s ∷ ss) (r ∷ rs) = IfOk r (ArePlanned s.now) × EachMade ss rs
EachMade [] (r ∷ rs) = ⊥
EachMade (s ∷ ss) [] = ⊥

-- part i was made of share i
abbrev pub IsMadeAt : List (Bor (List ThreadCode)) → ℕ → Part → Type 0
IsMadeAt shares i r = (s : Bor (List ThreadCode)) × ((d : Bor (List ThreadCode)) → slice_index_or shares i d ≡ s) × IfOk r (ArePlanned s.now)

each_made : (ss : List (Bor (List ThreadCode))) (rs : List Part) → length rs ≡ length ss → ((i : ℕ) (d : Part) → i < length ss → IsMadeAt ss i (slice_index_or rs i d)) → EachMade ss rs
each_made [] [] e h = tt
each_made (s ∷ ss) (r ∷ rs) e h =
    let first = h 0 r (omega arith) in
    (subst (λ (z : Bor (List ThreadCode)). IfOk r (ArePlanned z.now)) (sym (first.1 s)) first.2, each_made ss rs (omega (arith, e)) (λ i d l. h (suc i) d (omega (arith, l))))
each_made [] (r ∷ rs) e h = absurd (omega (arith, e))
each_made (s ∷ ss) [] e h = absurd (omega (arith, e))

each_planned : (ss : List (Bor (List ThreadCode))) (rs : List Part) (plans : List Planned) → EachMade ss rs → AreJoined rs plans → ArePlanned (codes_of ss) plans
each_planned [] [] plans m j = rw j tt
each_planned (s ∷ ss) (Ok part ∷ rs) plans m j = rw j.1 (planned-append s.now (codes_of ss) part j.0 m.0 (each_planned ss rs j.0 m.1 j.2))
each_planned (s ∷ ss) (Err e ∷ rs) plans m j = absurd j
each_planned [] (r ∷ rs) plans m j = absurd m
each_planned (s ∷ ss) [] plans m j = absurd m

pub shares_planned : (ss : List (Bor (List ThreadCode))) (rs : List Part) (codes : List ThreadCode) (plans : List Planned) → codes_of ss ≡ codes → length rs ≡ length ss →
    ((i : ℕ) (d : Part) → i < length ss → IsMadeAt ss i (slice_index_or rs i d)) → AreJoined rs plans → ArePlanned codes plans
shares_planned ss rs codes plans e same made j = subst (λ (z : List ThreadCode). ArePlanned z plans) e (each_planned ss rs plans (each_made ss rs same made) j)
