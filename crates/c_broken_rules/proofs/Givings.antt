-- Which faults the creates of a text show together: a second routine for one thread object.
use Rattle.std.proofs.Common.{◌≡◌, refl, sym, subst, ap, ◌∙◌, inl, inr, ℕ, zero, suc, ◌<◌, ◌≤◌, Bool, true, false, List, [], ◌∷◌, ◌++◌, length, Option, Some, None, append_assoc, append-nil, arith}
use Rattle.std.specs.Prelude.{◌≢◌, ◌⊎◌, fold, nat_eq, if◌then◌else◌, slice_get, slice_set}
use Rattle.std.proofs.lemmas.Option.{same_Some, none-some, slice_get_past}
use Rattle.std.proofs.lemmas.List.{length-set}
use Rattle.std.proofs.lemmas.Bool.{ne_eqb, eqb-false, eqb-true}
use Rattle.lists.proofs.Places.{get_there, set_elsewhere, set_there}
use Rattle.c_program.specs.declared.tree.ThreadObject.{ThreadObject}
use Rattle.c_rules.specs.declared.fault.Fault.{Fault}
use Rattle.c_rules.specs.declared.findings.Creation.{Creation}
use Rattle.c_rules.specs.Faults.{first}
use Rattle.c_rules.specs.Names.{or_else}
use Rattle.c_resolution.specs.Routines as r
use Rattle.c_resolution.specs.Routines.{Given, next_given}
use Rattle.c_broken_rules.proofs.Orders.{IsReached, reached_first, reached_new, first_of_two}
use Rattle.c_broken_rules.specs.ThreadLaws.{fault_at}
use Rattle.c_broken_rules.proofs.Creations.{cap, real, real_one}
use Rattle.c_broken_rules.proofs.CreateScope.{AllFree}

-- ---- tables of thread objects

abbrev routine_in : Option ThreadObject → Option ℕ
routine_in None = None
routine_in (Some o) = o.routine

-- the routine that an object has
abbrev routine_at : List ThreadObject → ℕ → Option ℕ
routine_at threads n = routine_in (slice_get threads n)

pub free_at : (threads : List ThreadObject) → AllFree threads → (n : ℕ) → routine_at threads n ≡ None
free_at [] h n = refl
free_at (x ∷ threads) h zero = h.0
free_at (x ∷ threads) h (suc n) = free_at threads h.1 n

-- ---- one create

given_count_at : (c : Creation) (object : ThreadObject) (o : Option ℕ) (threads : List ThreadObject) → length (r.given_to c object o threads).0 ≡ length threads
given_count_at c object None threads = length-set threads c.thread (record { length = object.length; routine = Some c.routine })
given_count_at c object (Some m) threads = refl

given_count_by : (c : Creation) (o : Option ThreadObject) (threads : List ThreadObject) → length (r.given_at c o threads).0 ≡ length threads
given_count_by c None threads = refl
given_count_by c (Some object) threads = given_count_at c object object.routine threads

given_count : (c : Creation) (threads : List ThreadObject) → length (r.given c threads).0 ≡ length threads
given_count c threads = given_count_by c (slice_get threads c.thread) threads

first_none : (a : Option Fault) → first a None ≡ a
unfolding first
first_none None = refl
first_none (Some f) = refl

-- a create of no object
no_object : (g : Given) (c : Creation) → length g.0 ≤ c.thread → next_given g c ≡ g
no_object g c le =
    ap (λ o. r.joined g.1 (r.given_at c o g.0)) (slice_get_past g.0 c.thread le) ∙ ap (λ f. let z : Given = (g.0, f) in z) (first_none g.1)

real_by : (b : Bool) (c : Creation) (cs : List Creation) (g : Given) → nat_eq c.thread cap ≡ b → length g.0 < cap →
    ((z : Given) → length z.0 < cap → fold next_given z cs ≡ fold next_given z (real cs)) → fold next_given g (c ∷ cs) ≡ fold next_given g (real_one b c ++ real cs)
real_by true c cs g e lt later =
    let same = eqb-true c.thread cap e in
    ap (λ z. fold next_given z cs) (no_object g c (omega arith)) ∙ later g lt
real_by false c cs g e lt later =
    let same : length (next_given g c).0 ≡ length g.0 = given_count c g.0 in
    later (next_given g c) (subst (λ n. n < cap) (sym same) lt)

-- creates of misused objects show nothing
pub real_given : (cs : List Creation) (g : Given) → length g.0 < cap → fold next_given g cs ≡ fold next_given g (real cs)
real_given [] g lt = refl
real_given (c ∷ cs) g lt = real_by (nat_eq c.thread cap) c cs g refl lt (λ z k. real_given cs z k)

-- ---- the routine that the first create of an object names

abbrev pub first_in : List Creation → ℕ → Option ℕ
first_in [] n = None
first_in (c ∷ cs) n = if nat_eq c.thread n then Some c.routine else first_in cs n

cond_or : (b : Bool) (m : ℕ) (x z : Option ℕ) → (if b then Some m else or_else x z) ≡ or_else (if b then Some m else x) z
cond_or true m x z = refl
cond_or false m x z = refl

first_both : (xs ys : List Creation) (n : ℕ) → first_in (xs ++ ys) n ≡ or_else (first_in xs n) (first_in ys n)
first_both [] ys n = refl
first_both (c ∷ xs) ys n =
    ap (λ o. if nat_eq c.thread n then Some c.routine else o) (first_both xs ys n) ∙ cond_or (nat_eq c.thread n) c.routine (first_in xs n) (first_in ys n)

-- what the tables hold behind some creates
abbrev pub Knows : List ThreadObject → List Creation → Type 0
Knows threads P = (n : ℕ) → routine_at threads n ≡ first_in P n

or_none : (x : Option ℕ) → or_else x None ≡ x
or_none None = refl
or_none (Some m) = refl

more_by : (P : List Creation) (c : Creation) (n : ℕ) (b : Bool) → nat_eq c.thread n ≡ b → first_in (P ++ c ∷ []) n ≡ or_else (first_in P n) (if b then Some c.routine else None)
more_by P c n b e = first_both P (c ∷ []) n ∙ ap (λ t. or_else (first_in P n) (if t then Some c.routine else None)) e

new_at : (threads : List ThreadObject) (P : List Creation) (c : Creation) (object new : ThreadObject) (n : ℕ) (b : Bool) → nat_eq c.thread n ≡ b →
    slice_get threads c.thread ≡ Some object → object.routine ≡ None → new.routine ≡ Some c.routine → Knows threads P →
    routine_at (slice_set threads c.thread new) n ≡ first_in (P ++ c ∷ []) n
new_at threads P c object new n true e at none is knows =
    let same = eqb-true c.thread n e in
    let empty = sym (knows n) ∙ ap (routine_at threads) (sym same) ∙ ap routine_in at ∙ none in
    ap (routine_at (slice_set threads c.thread new)) (sym same) ∙ ap routine_in (set_there threads c.thread object new at) ∙ is
    ∙ sym (more_by P c n true e ∙ ap (λ o. or_else o (Some c.routine)) empty)
new_at threads P c object new n false e at none is knows =
    ap routine_in (set_elsewhere threads c.thread n new (eqb-false c.thread n e)) ∙ knows n ∙ sym (more_by P c n false e ∙ or_none (first_in P n))

or_some : (x z : Option ℕ) (m : ℕ) → x ≡ Some m → or_else x z ≡ x
or_some (Some k) z m e = refl
or_some None z m e = absurd (none-some m e)

old_at : (threads : List ThreadObject) (P : List Creation) (c : Creation) (m n : ℕ) (b : Bool) → nat_eq c.thread n ≡ b → routine_at threads c.thread ≡ Some m → Knows threads P →
    routine_at threads n ≡ first_in (P ++ c ∷ []) n
old_at threads P c m n true e at knows =
    let same = eqb-true c.thread n e in
    knows n ∙ sym (more_by P c n true e ∙ or_some (first_in P n) (Some c.routine) m (sym (knows n) ∙ ap (routine_at threads) (sym same) ∙ at))
old_at threads P c m n false e at knows = knows n ∙ sym (more_by P c n false e ∙ or_none (first_in P n))

-- what a create of an object shows
pub record Step (c : Creation) (threads : List ThreadObject) (P : List Creation) (g : Given) : Type 0 where
  pub knows : Knows g.0 (P ++ c ∷ [])
  -- a fault in it is that of a second routine
  pub from : (f : Fault) → g.1 ≡ Some f → (m : ℕ) × (first_in P c.thread ≡ Some m) × (m ≢ c.routine) × (fault_at c.offset ≡ f)
  -- and a second routine is a fault
  pub back : (m : ℕ) → first_in P c.thread ≡ Some m → m ≢ c.routine → g.1 ≡ Some (fault_at c.offset)

second_from : (c : Creation) (m : ℕ) (b : Bool) → nat_eq m c.routine ≡ b → (f : Fault) → (if b then None else Some (fault_at c.offset)) ≡ Some f →
    (m ≢ c.routine) × (fault_at c.offset ≡ f)
second_from c m true e f h = absurd (none-some f h)
second_from c m false e f h = (eqb-false m c.routine e, same_Some (fault_at c.offset) f h)

step_at : (c : Creation) (object : ThreadObject) (o : Option ℕ) (threads : List ThreadObject) (P : List Creation) → slice_get threads c.thread ≡ Some object → object.routine ≡ o →
    Knows threads P → Step c threads P (r.given_to c object o threads)
step_at c object None threads P at is knows = record {
  knows = λ n. new_at threads P c object (record { length = object.length; routine = Some c.routine }) n (nat_eq c.thread n) refl at is refl knows;
  from = λ f e. absurd (none-some f e);
  back = λ m e out. absurd (none-some m (sym (sym (knows c.thread) ∙ ap routine_in at ∙ is) ∙ e));
}
step_at c object (Some m) threads P at is knows =
    let there = ap routine_in at ∙ is in
    record {
      knows = λ n. old_at threads P c m n (nat_eq c.thread n) refl there knows;
      from = λ f e. let h = second_from c m (nat_eq m c.routine) refl f e in (m, sym (knows c.thread) ∙ there, h.0, h.1);
      back = λ k e out.
          let same = same_Some m k (sym there ∙ knows c.thread ∙ e) in
          ap (λ b. if b then None else Some (fault_at c.offset)) (ne_eqb m c.routine (λ h. out (sym same ∙ h)));
    }

step_by : (c : Creation) (threads : List ThreadObject) (P : List Creation) (object : ThreadObject) → slice_get threads c.thread ≡ Some object → Knows threads P →
    Step c threads P (r.given c threads)
step_by c threads P object at knows =
    subst (λ o. Step c threads P (r.given_at c o threads)) (sym at) (step_at c object object.routine threads P at refl knows)

step : (c : Creation) (threads : List ThreadObject) (P : List Creation) → c.thread < length threads → Knows threads P → Step c threads P (r.given c threads)
step c threads P lt knows = let o = get_there threads c.thread lt in step_by c threads P o.0 o.1 knows

-- ---- all creates

abbrev pub AllBelow : ℕ → List Creation → Type 0
AllBelow n [] = Unit {0}
AllBelow n (c ∷ cs) = (c.thread < n) × AllBelow n cs

still_below : (m n : ℕ) (cs : List Creation) → m ≡ n → AllBelow m cs → AllBelow n cs
still_below m n cs e h = subst (λ k. AllBelow k cs) e h

-- a create that names another routine than the first one of its object
pub record Second (P S : List Creation) (f : Fault) : Type 0 where
  pub before : List Creation
  pub c : Creation
  pub rest : List Creation
  pub text : S ≡ before ++ c ∷ rest
  pub m : ℕ
  pub earlier : first_in (P ++ before) c.thread ≡ Some m
  pub other : m ≢ c.routine
  pub is : fault_at c.offset ≡ f

shifted : (P S : List Creation) (c : Creation) (f : Fault) → Second (P ++ c ∷ []) S f → Second P (c ∷ S) f
shifted P S c f h = record {
  before = c ∷ h.before;
  c = h.c;
  rest = h.rest;
  text = ap (λ l. c ∷ l) h.text;
  m = h.m;
  earlier = ap (λ l. first_in l h.c.thread) (sym (append_assoc P (c ∷ []) h.before)) ∙ h.earlier;
  other = h.other;
  is = h.is;
}

here : (P S : List Creation) (c : Creation) (f : Fault) → (m : ℕ) × (first_in P c.thread ≡ Some m) × (m ≢ c.routine) × (fault_at c.offset ≡ f) → Second P (c ∷ S) f
here P S c f h = record {
  before = [];
  c = c;
  rest = S;
  text = refl;
  m = h.0;
  earlier = ap (λ l. first_in l c.thread) (append-nil P) ∙ h.1;
  other = h.2;
  is = h.3;
}

from_step : (P S : List Creation) (c : Creation) (g : Given) (f : Fault) → Step c g.0 P (r.given c g.0) → (g.1 ≡ Some f) ⊎ ((r.given c g.0).1 ≡ Some f) →
    (g.1 ≡ Some f) ⊎ Second P (c ∷ S) f
from_step P S c g f s (inl e) = inl e
from_step P S c g f s (inr e) = inr (here P S c f (s.from f e))

from_rest : (P S : List Creation) (c : Creation) (g : Given) (f : Fault) → Step c g.0 P (r.given c g.0) → ((next_given g c).1 ≡ Some f) ⊎ Second (P ++ c ∷ []) S f →
    (g.1 ≡ Some f) ⊎ Second P (c ∷ S) f
from_rest P S c g f s (inl e) = from_step P S c g f s (first_of_two g.1 (r.given c g.0).1 f e)
from_rest P S c g f s (inr h) = inr (shifted P S c f h)

-- a fault that creates show was there, or is that of a second routine
pub faults_from : (S P : List Creation) (g : Given) → Knows g.0 P → AllBelow (length g.0) S → (f : Fault) → (fold next_given g S).1 ≡ Some f → (g.1 ≡ Some f) ⊎ Second P S f
faults_from [] P g knows below f e = inl e
faults_from (c ∷ S) P g knows below f e =
    let s = step c g.0 P below.0 knows in
    from_rest P S c g f s
    (faults_from S (P ++ c ∷ []) (next_given g c) s.knows (still_below (length g.0) (length (next_given g c).0) S (sym (given_count c g.0)) below.1) f e)

kept : (S : List Creation) (g : Given) (x : Fault) → IsReached x g.1 → IsReached x (fold next_given g S).1
kept [] g x h = h
kept (c ∷ S) g x h = kept S (next_given g c) x (reached_first x g.1 (r.given c g.0).1 h)

-- and a second routine is reached
pub faults_reached : (before rest : List Creation) (c : Creation) (P : List Creation) (g : Given) (m : ℕ) → Knows g.0 P → AllBelow (length g.0) (before ++ c ∷ rest) →
    first_in (P ++ before) c.thread ≡ Some m → m ≢ c.routine → IsReached (fault_at c.offset) (fold next_given g (before ++ c ∷ rest)).1
faults_reached [] rest c P g m knows below earlier other =
    let s = step c g.0 P below.0 knows in
    let f = s.back m (ap (λ l. first_in l c.thread) (sym (append-nil P)) ∙ earlier) other in
    kept rest (next_given g c) (fault_at c.offset)
    (subst (λ o. IsReached (fault_at c.offset) (first g.1 o)) (sym f) (reached_new (fault_at c.offset) g.1))
faults_reached (x ∷ before) rest c P g m knows below earlier other =
    let s = step x g.0 P below.0 knows in
    faults_reached before rest c (P ++ x ∷ []) (next_given g x) m s.knows
    (still_below (length g.0) (length (next_given g x).0) (before ++ c ∷ rest) (sym (given_count x g.0)) below.1)
    (ap (λ l. first_in l c.thread) (append_assoc P (x ∷ []) before) ∙ earlier) other
