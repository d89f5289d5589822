-- The parts of a statement that is taken are.
use Rattle.std.proofs.Common.{◌≡◌, ℕ, Bool, true, false, ◌&&◌, refl, sym, ap, ◌∙◌}
use Rattle.std.proofs.lemmas.Bool.{and_parts, and_from}
use Rattle.c_program.specs.Tree.{Statement}
use Rattle.code_control.specs.Deciding.{is_joined, is_cut, is_asked}
use Rattle.ir_lower.specs.Taken.{is_taken}

pub sequence_taken : (l t : Bool) (s first rest : Statement) → s ≡ Statement.Sequence first rest → is_taken l t s ≡ true → (is_taken l t first ≡ true) × (is_taken l t rest ≡ true)
sequence_taken l t s first rest is taken = and_parts (is_taken l t first) (is_taken l t rest) (sym (ap (is_taken l t) is) ∙ taken)

pub if_taken : (l t : Bool) (s d one other : Statement) → s ≡ Statement.If d one other → is_taken l t s ≡ true → (is_asked d ≡ true) × (is_taken l t one ≡ true) × (is_taken l t other ≡ true)
if_taken l t s d one other is taken =
    let all = and_parts (is_asked d) (is_taken l t one && is_taken l t other) (sym (ap (is_taken l t) is) ∙ taken) in
    let both = and_parts (is_taken l t one) (is_taken l t other) all.1 in
    (all.0, both.0, both.1)

pub while_taken : (l t : Bool) (s d body : Statement) → s ≡ Statement.While d body → is_taken l t s ≡ true → (is_asked d ≡ true) × (is_taken true true body ≡ true)
while_taken l t s d body is taken = and_parts (is_asked d) (is_taken true true body) (sym (ap (is_taken l t) is) ∙ taken)

pub do_taken : (l t : Bool) (s body d : Statement) → s ≡ Statement.DoWhile body d → is_taken l t s ≡ true → (is_taken true true body ≡ true) × (is_asked d ≡ true)
do_taken l t s body d is taken = and_parts (is_taken true true body) (is_asked d) (sym (ap (is_taken l t) is) ∙ taken)

pub for_taken : (l t : Bool) (s first d last body : Statement) → s ≡ Statement.For first d last body → is_taken l t s ≡ true →
    (is_taken false false first ≡ true) × (is_asked d ≡ true) × (is_taken false false last ≡ true) × (is_taken true true body ≡ true)
for_taken l t s first d last body is taken =
    let all = and_parts (is_taken false false first) (is_asked d && (is_taken false false last && is_taken true true body)) (sym (ap (is_taken l t) is) ∙ taken) in
    let rest = and_parts (is_asked d) (is_taken false false last && is_taken true true body) all.1 in
    let both = and_parts (is_taken false false last) (is_taken true true body) rest.1 in
    (all.0, rest.0, both.0, both.1)

-- a cut is taken
pub cut_taken : (l t : Bool) (s : Statement) → is_cut s ≡ true → is_taken l t s ≡ true
cut_taken l t Statement.Done is = refl
cut_taken l t (Statement.Sequence a b) is =
    let p = and_parts (is_cut a) (is_cut b) is in
    and_from (is_taken l t a) (is_taken l t b) (cut_taken l t a p.0) (cut_taken l t b p.1)
cut_taken l t (Statement.Call offset into g es) is = refl
cut_taken l t (Statement.Keep offset slot ty e) is = refl
cut_taken l t (Statement.Truth slot d) is = is
cut_taken l t (Statement.If d a b) is =
    let p = and_parts (is_asked d) (is_cut a && is_cut b) is in
    let q = and_parts (is_cut a) (is_cut b) p.1 in
    and_from (is_asked d) (is_taken l t a && is_taken l t b) p.0 (and_from (is_taken l t a) (is_taken l t b) (cut_taken l t a q.0) (cut_taken l t b q.1))
cut_taken l t s is = absurd cc

pub truth_asked : (l t : Bool) (s d : Statement) (slot : ℕ) → s ≡ Statement.Truth slot d → is_taken l t s ≡ true → is_asked d ≡ true
truth_asked l t s d slot is taken = (and_parts (is_joined d) (is_asked d) (sym (ap (is_taken l t) is) ∙ taken)).1

pub asked_both : (e c d : Statement) → is_asked e ≡ true → is_asked e ≡ is_asked c && is_asked d → (is_asked c ≡ true) × (is_asked d ≡ true)
asked_both e c d is same = and_parts (is_asked c) (is_asked d) (sym same ∙ is)

pub asked_cut : (d cut rest : Statement) → d ≡ Statement.Sequence cut rest → is_asked d ≡ true → (is_cut cut ≡ true) × (is_asked rest ≡ true)
asked_cut d cut rest is asked = and_parts (is_cut cut) (is_asked rest) (sym (ap is_asked is) ∙ asked)

pub cut_choice : (s d one other : Statement) → s ≡ Statement.If d one other → is_cut s ≡ true → (is_cut one ≡ true) × (is_cut other ≡ true)
cut_choice s d one other is cut =
    let p = and_parts (is_asked d) (is_cut one && is_cut other) (sym (ap is_cut is) ∙ cut) in
    and_parts (is_cut one) (is_cut other) p.1
