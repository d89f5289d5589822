-- The cuts of a step: each is in order, and they keep values in no more locals than what they are for weighs.
use Rattle.std.proofs.Common.{◌≡◌, refl, inl, inr, subst, ℕ, ◌<◌, ◌≤◌, List, [], ◌∷◌, ◌++◌, length, Some, None, arith}
use Rattle.std.specs.Prelude.{◌+◌, max, Contains}
use Rattle.std.specs.List.{AllByRecursion}
use Rattle.std.proofs.lemmas.List.Elements.{Contains-append_cases}
use Rattle.lists.proofs.Places.{in_none}
use Rattle.hls_ints.specs.Types.{IntegerType}
use Rattle.c_program.specs.Tree.{Expression, Statement, Function, Program}
use Rattle.c_program.specs.Calls.{calls_of}
use Rattle.c_program.specs.Weight.{expression_weight, statement_weight}
use Rattle.c_program.specs.Resolved as r
use Rattle.c_rules.specs.declared.findings.Findings.{Findings}
use Rattle.c_rules.specs.Constants.{plus}
use Rattle.c_expressions.specs.Cuts.{Cuts, Cut, cut, free_from, keeping, keeping_all}
use Rattle.c_expressions.specs.Expressions as e
use Rattle.c_expressions.specs.Sequences.{sequence, behind_cuts}
use Rattle.c_resolution.specs.Slots.{slots_end}
use Rattle.c_resolved_program.specs.Orders.{AreFound, IsAsked, list_end}
use Rattle.c_resolved_program.proofs.Lists.{all_both}
use Rattle.c_resolved_program.proofs.Walks.{both_found}
use Rattle.c_resolved_program.proofs.Maxima.{first_of_max, second_of_max, max_of_both}
use Rattle.c_resolved_program.proofs.Fits.{each_fits}
use Rattle.c_resolved_program.proofs.Neighbours as n

-- ---- statements one after another

abbrev pub weights : List Statement → ℕ
weights list = n.total statement_weight list

sequence_weighs : (list : List Statement) → statement_weight (sequence list) ≡ weights list
sequence_weighs list = n.sequence_weight statement_weight refl (λ first rest. refl) list

pub weights_both : (xs ys : List Statement) → weights (xs ++ ys) ≡ weights xs + weights ys
weights_both [] ys = omega arith
weights_both (x ∷ xs) ys = let e = weights_both xs ys in omega (arith, e)

pub behind_weight : (before : List Statement) (last : Statement) → statement_weight (behind_cuts before last) ≡ weights before + statement_weight last
behind_weight [] last = omega arith
behind_weight (x ∷ more) last =
    let e = sequence_weighs (x ∷ more ++ last ∷ []) in
    let k = weights_both (x ∷ more) (last ∷ []) in
    omega (arith, e, k)

-- the number behind the last local
pub end_both : (xs ys : List Statement) (m : ℕ) → list_end xs ≤ m → list_end ys ≤ m → list_end (xs ++ ys) ≤ m
end_both [] ys m h k = k
end_both (x ∷ xs) ys m h k =
    max_of_both (slots_end x) (list_end (xs ++ ys)) m (first_of_max (slots_end x) (list_end xs) m h)
    (end_both xs ys m (second_of_max (slots_end x) (list_end xs) m h) k)

pub end_front : (xs ys : List Statement) (m : ℕ) → list_end (xs ++ ys) ≤ m → list_end xs ≤ m
end_front [] ys m h = omega arith
end_front (x ∷ xs) ys m h =
    max_of_both (slots_end x) (list_end xs) m (first_of_max (slots_end x) (list_end (xs ++ ys)) m h)
    (end_front xs ys m (second_of_max (slots_end x) (list_end (xs ++ ys)) m h))

pub end_back : (xs ys : List Statement) (m : ℕ) → list_end (xs ++ ys) ≤ m → list_end ys ≤ m
end_back [] ys m h = h
end_back (x ∷ xs) ys m h = end_back xs ys m (second_of_max (slots_end x) (list_end (xs ++ ys)) m h)

pub end_one : (x : Statement) (m : ℕ) → slots_end x ≤ m → list_end (x ∷ []) ≤ m
end_one x m h = max_of_both (slots_end x) 0 m h (omega arith)

pub of_one : (x : Statement) (m : ℕ) → list_end (x ∷ []) ≤ m → slots_end x ≤ m
of_one x m h = first_of_max (slots_end x) 0 m h

abbrev pub IsWithin : ℕ → Statement → Type 0
IsWithin m x = slots_end x ≤ m

pub all_within : (m : ℕ) (list : List Statement) → list_end list ≤ m → AllByRecursion (IsWithin m) list
all_within m [] h = tt
all_within m (x ∷ list) h = (first_of_max (slots_end x) (list_end list) m h, all_within m list (second_of_max (slots_end x) (list_end list) m h))

pub end_of_all : (m : ℕ) (list : List Statement) → AllByRecursion (IsWithin m) list → list_end list ≤ m
end_of_all m [] all = omega arith
end_of_all m (x ∷ list) all = max_of_both (slots_end x) (list_end list) m all.0 (end_of_all m list all.1)

-- ---- a statement behind cuts

module _ (Is Last : Statement → Type 0) (both : (first rest : Statement) → Is first → Is rest → Is (Statement.Sequence first rest))
    (ends : (first rest : Statement) → Is first → Last rest → Last (Statement.Sequence first rest)) where
  pub behind : (before : List Statement) (last : Statement) → AllByRecursion Is before → Last last → Last (behind_cuts before last)
  behind [] last all is = is
  behind (x ∷ more) last all is = n.sequence_ends Is Last both ends (x ∷ more) last all is

within_both : (m : ℕ) (first rest : Statement) → IsWithin m first → IsWithin m rest → IsWithin m (Statement.Sequence first rest)
within_both m first rest h k = max_of_both (slots_end first) (slots_end rest) m h k

pub behind_end : (m : ℕ) (before : List Statement) (last : Statement) → list_end before ≤ m → slots_end last ≤ m → slots_end (behind_cuts before last) ≤ m
behind_end m before last h k = behind (IsWithin m) (IsWithin m) (within_both m) (within_both m) before last (all_within m before h) k

pub behind_fits : (m : ℕ) (before : List Statement) (last : Statement) → slots_end (behind_cuts before last) ≤ m → (list_end before ≤ m) × (slots_end last ≤ m)
behind_fits m [] last h = (omega arith, h)
behind_fits m (x ∷ more) last h =
    let all = end_of_all m (x ∷ more ++ last ∷ []) (each_fits m (x ∷ more ++ last ∷ []) h) in
    (end_front (x ∷ more) (last ∷ []) m all, of_one last m (end_back (x ∷ more) (last ∷ []) m all))

none_both : {A : Type 0} (xs ys : List A) → xs ≡ [] → ys ≡ [] → xs ++ ys ≡ []
none_both [] ys h k = k
none_both (x ∷ xs) ys h k = cc

-- the room of a value
abbrev pub value_room : Expression → ℕ
value_room x = expression_weight x + 1

-- ---- cuts that are in order

module _ (whole : Findings) (P : Program) (number : ℕ) (f : Function) where
  abbrev pub Slots : Type 0
  Slots = (k : ℕ) → f.declared_locals ≤ k → k < length f.locals → r.IsSlot f k

  -- the calls of a cut are found, and it has no creates
  pub record IsFound (x : Statement) : Type 0 where
    pub calls : AreFound whole number (calls_of x)
    pub creates : r.creates_of x ≡ []

  abbrev pub AreIn : List Statement → Type 0
  AreIn list = AllByRecursion IsFound list

  -- the function has the locals of some statements
  abbrev pub FitsIn : List Statement → Type 0
  FitsIn list = list_end list ≤ length f.locals

  abbrev pub AllCuts : List Statement → Type 0
  AllCuts list = AllByRecursion (r.IsCut P f) list

  abbrev AreCalls : Statement → Type 0
  AreCalls x = AreFound whole number (calls_of x)

  calls_both : (first rest : Statement) → AreCalls first → AreCalls rest → AreCalls (Statement.Sequence first rest)
  calls_both first rest h k = both_found whole number (calls_of first) (calls_of rest) h k

  all_calls : (list : List Statement) → AreIn list → AllByRecursion AreCalls list
  all_calls [] all = tt
  all_calls (x ∷ list) all = (all.0.calls, all_calls list all.1)

  pub behind_calls : (before : List Statement) (last : Statement) → AreIn before → AreCalls last → AreCalls (behind_cuts before last)
  behind_calls before last all is = behind AreCalls AreCalls calls_both calls_both before last (all_calls before all) is

  -- what is said of each create of a list
  abbrev Each : (ℕ → ℕ → Type 0) → List (ℕ × ℕ) → Type 0
  Each Made list = (thread routine : ℕ) → Contains list (thread, routine) → Made thread routine

  each_both : (Made : ℕ → ℕ → Type 0) (xs ys : List (ℕ × ℕ)) → Each Made xs → Each Made ys → Each Made (xs ++ ys)
  each_both Made xs ys h k thread routine inside =
      elim (Contains-append_cases xs ys (thread, routine) inside) [
        | inl first ↦ h thread routine first
        | inr later ↦ k thread routine later
      ]

  all_created : (Made : ℕ → ℕ → Type 0) (list : List Statement) → AreIn list → AllByRecursion (λ x. Each Made (r.creates_of x)) list
  all_created Made [] all = tt
  all_created Made (x ∷ list) all = (
    λ thread routine inside. absurd (in_none (thread, routine) (subst (λ l. Contains l (thread, routine)) all.0.creates inside)),
    all_created Made list all.1,
  )

  pub behind_creates : (Made : ℕ → ℕ → Type 0) (before : List Statement) (last : Statement) → AreIn before → Each Made (r.creates_of last) →
      Each Made (r.creates_of (behind_cuts before last))
  behind_creates Made before last all is =
      behind (λ x. Each Made (r.creates_of x)) (λ x. Each Made (r.creates_of x)) (λ first rest h k. each_both Made (r.creates_of first) (r.creates_of rest) h k)
      (λ first rest h k. each_both Made (r.creates_of first) (r.creates_of rest) h k) before last (all_created Made before all) is

  pub behind_cut : (before : List Statement) (last : Statement) → AllByRecursion (r.IsCut P f) before → r.IsCut P f last → r.IsCut P f (behind_cuts before last)
  behind_cut before last all is = behind (r.IsCut P f) (r.IsCut P f) (λ a b h k. (h, k)) (λ a b h k. (h, k)) before last all is

  pub behind_condition : (before : List Statement) (last : Statement) → AllByRecursion (r.IsCut P f) before → r.IsCondition P f last →
      r.IsCondition P f (behind_cuts before last)
  behind_condition before last all is = behind (r.IsCut P f) (r.IsCondition P f) (λ a b h k. (h, k)) (λ a b h k. (h, k)) before last all is

  -- a cut is a statement too
  pub cut_statement : (a : r.Around) (x : Statement) → r.IsCut P f x → r.IsStatement P f a x
  cut_statement a Statement.Done is = tt
  cut_statement a (Statement.Sequence first rest) is = (cut_statement a first is.0, cut_statement a rest is.1)
  cut_statement a Statement.Empty is = absurd is
  cut_statement a (Statement.Block body) is = absurd is
  cut_statement a (Statement.Declare offset local operators) is = absurd is
  cut_statement a (Statement.Assign offset place right) is = absurd is
  cut_statement a (Statement.Update offset place operator ty right) is = absurd is
  cut_statement a (Statement.Call offset None callee arguments) is = absurd is
  cut_statement a (Statement.Call offset (Some slot) callee arguments) is = is
  cut_statement a (Statement.Keep offset slot ty operand) is = is
  cut_statement a (Statement.Truth slot condition) is = is
  cut_statement a (Statement.Test offset operand) is = absurd is
  cut_statement a (Statement.Both first second) is = absurd is
  cut_statement a (Statement.Either first second) is = absurd is
  cut_statement a (Statement.Opposite inner) is = absurd is
  cut_statement a (Statement.If condition x z) is = (is.0, cut_statement (r.within a) x is.1, cut_statement (r.within a) z is.2)
  cut_statement a (Statement.While condition body) is = absurd is
  cut_statement a (Statement.DoWhile body condition) is = absurd is
  cut_statement a (Statement.For first condition last body) is = absurd is
  cut_statement a (Statement.Switch offset ty operand body) is = absurd is
  cut_statement a (Statement.Label value operators) is = absurd is
  cut_statement a Statement.Break is = absurd is
  cut_statement a Statement.Continue is = absurd is
  cut_statement a (Statement.Return offset right) is = absurd is
  cut_statement a (Statement.Print offset format arguments) is = absurd is
  cut_statement a (Statement.Thread offset call) is = absurd is

  all_statements : (a : r.Around) (list : List Statement) → AllByRecursion (r.IsCut P f) list → AllByRecursion (r.IsStatement P f a) list
  all_statements a [] all = tt
  all_statements a (x ∷ list) all = (cut_statement a x all.0, all_statements a list all.1)

  pub behind_statement : (a : r.Around) (before : List Statement) (last : Statement) → AllByRecursion (r.IsCut P f) before → r.IsStatement P f a last →
      r.IsStatement P f a (behind_cuts before last)
  behind_statement a before last all is =
      behind (r.IsStatement P f a) (r.IsStatement P f a) (λ first rest h k. (h, k)) (λ first rest h k. (h, k)) before last (all_statements a before all) is

  -- ---- the cuts of a step so far

  -- they keep values in the locals from n on, in so many more than they weigh
  pub record AreCuts (n p : ℕ) (c : Cuts) : Type 0 where
    pub is : FitsIn c.before → AllCuts c.before
    pub found : AreIn c.before
    pub from : f.declared_locals ≤ c.next
    pub few : c.next ≤ n + p
    pub inside : list_end c.before ≤ n + (weights c.before + p)

  abbrev pub Fits : Cuts → Type 0
  Fits c = FitsIn c.before

  pub none_yet : (n : ℕ) → f.declared_locals ≤ n → AreCuts n 0 (free_from n)
  none_yet n from = record { is = λ _. tt; found = tt; from = from; few = omega arith; inside = omega arith }

  pub more_room : (n p q : ℕ) (c : Cuts) → p ≤ q → AreCuts n p c → AreCuts n q c
  more_room n p q c le h = record {
    is = h.is;
    found = h.found;
    from = h.from;
    few = (let few = h.few in omega (arith, few, le));
    inside = (let inside = h.inside in omega (arith, inside, le));
  }

  -- a part of a step behind those before it: what is left of it takes so much room, and is so where the function has the locals
  pub record Follows {A : Type 0} (room : A → ℕ) (Is : A → Type 0) (n p : ℕ) (old : Cuts) (x : Cut A) : Type 0 where
    pub cuts : AreCuts n (p + room x.rest) x.cuts
    pub more : list_end old.before ≤ list_end x.cuts.before
    pub rest : Fits x.cuts → Is x.rest

  module _ {A B : Type 0} (room : A → ℕ) (Is : A → Type 0) (space : B → ℕ) (So : B → Type 0) where
    -- the same cuts for something else
    pub follows_as : (n p : ℕ) (old : Cuts) (x : Cut A) (b : B) → room x.rest ≤ space b → (Is x.rest → So b) → Follows room Is n p old x →
        Follows space So n p old (cut x.cuts b)
    follows_as n p old x b le so h = record {
      cuts = more_room n (p + room x.rest) (p + space b) x.cuts (omega (arith, le)) h.cuts;
      more = h.more;
      rest = λ fit. so (h.rest fit);
    }

  -- nothing but what is there already
  pub follows_none : {A : Type 0} (room : A → ℕ) (Is : A → Type 0) (n p : ℕ) (old : Cuts) (a : A) → Is a → AreCuts n p old → Follows room Is n p old (cut old a)
  follows_none room Is n p old a is h = record {
    cuts = more_room n p (p + room a) old (omega arith) h;
    more = omega arith;
    rest = λ _. is;
  }

  -- two parts one after another, for something else
  pub follows_both : {A B C : Type 0} (room : A → ℕ) (Is : A → Type 0) (space : B → ℕ) (So : B → Type 0) (place : C → ℕ) (Made : C → Type 0) (n p : ℕ) (old : Cuts)
      (x : Cut A) (z : Cut B) (c : C) → room x.rest + space z.rest ≤ place c → (Is x.rest → So z.rest → Made c) → Follows room Is n p old x →
      Follows space So n (p + room x.rest) x.cuts z → Follows place Made n p old (cut z.cuts c)
  follows_both room Is space So place Made n p old x z c le made h k = record {
    cuts = more_room n (p + room x.rest + space z.rest) (p + place c) z.cuts (omega (arith, le)) k.cuts;
    more = (let one = h.more in let two = k.more in omega (arith, one, two));
    rest = λ fit. made (h.rest (let two = k.more in omega (arith, fit, two))) (k.rest fit);
  }

  -- ---- a value that is kept

  next_from : (k : ℕ) → f.declared_locals < 0xffff_ffff → f.declared_locals ≤ k → f.declared_locals ≤ plus k 1
  next_from k small from = grind arith

  next_few : (k : ℕ) → plus k 1 ≤ k + 1
  next_few k = grind arith

  -- cuts behind cuts, the last of which keeps a value in the local behind the first ones
  pub keep_all : (n p w : ℕ) (old cuts : Cuts) (list : List Statement) → f.declared_locals < 0xffff_ffff → AreCuts n p old → AreCuts n (p + w) cuts →
      w ≤ weights list → (FitsIn (cuts.before ++ list) → AllCuts list) → AreIn list → (q : ℕ) → 1 ≤ q → list_end list ≤ n + (p + (weights list + q)) →
      AreCuts n (p + q) (keeping_all old.next list cuts)
  keep_all n p w old cuts list small first h weighs is found q some inside = record {
    is = λ fit. all_both (r.IsCut P f) cuts.before list (h.is (end_front cuts.before list (length f.locals) fit)) (is fit);
    found = all_both IsFound cuts.before list h.found found;
    from = next_from old.next small first.from;
    few = (let few = first.few in let next = next_few old.next in omega (arith, few, next, some));
    inside =
        (let both = weights_both cuts.before list in
        let within = h.inside in
        end_both cuts.before list (n + (weights (cuts.before ++ list) + (p + q))) (omega (arith, both, within, weighs)) (omega (arith, both, inside)));
  }

  pub end_grows : (cuts : Cuts) (list : List Statement) → list_end cuts.before ≤ list_end (cuts.before ++ list)
  end_grows cuts list = end_front cuts.before list (list_end (cuts.before ++ list)) (omega arith)

  pub end_last : (cuts : Cuts) (list : List Statement) → list_end list ≤ list_end (cuts.before ++ list)
  end_last cuts list = end_back cuts.before list (list_end (cuts.before ++ list)) (omega arith)

  abbrev pub IsValue : ℕ → ℕ → Cuts → Cut Expression → Type 0
  IsValue n p old x = Follows value_room (r.IsExpression P f) n p old x

  -- a statement that keeps a value in the local behind the cuts before
  pub kept_is : (n p w : ℕ) (old cuts : Cuts) (ty : IntegerType) (x : Statement) → f.declared_locals < 0xffff_ffff → Slots → AreCuts n p old → AreCuts n (p + w) cuts →
      list_end old.before ≤ list_end cuts.before → w ≤ statement_weight x → (Fits cuts → slots_end x ≤ length f.locals → r.IsCut P f x) → IsFound x →
      old.next < slots_end x → slots_end x ≤ n + (p + (statement_weight x + 1)) → IsValue n p old (cut (keeping old.next x cuts) (Expression.Kept old.next ty))
  kept_is n p w old cuts ty x small slots first h more weighs is found own inside = record {
    cuts =
        keep_all n p w old cuts (x ∷ []) small first h (omega (arith, weighs))
        (λ fit. (is (end_front cuts.before (x ∷ []) (length f.locals) fit) (of_one x (length f.locals) (end_back cuts.before (x ∷ []) (length f.locals) fit)), tt))
        (found, tt) 1 (omega arith) (end_one x (n + (p + (weights (x ∷ []) + 1))) (omega (arith, inside)));
    more = (let grows = end_grows cuts (x ∷ []) in omega (arith, more, grows));
    rest = λ fit.
        let le = of_one x (length f.locals) (end_back cuts.before (x ∷ []) (length f.locals) fit) in
        slots old.next first.from (omega (arith, own, le));
  }

  -- ---- operands of conditionals and of conditions

  pub record IsChosen (n : ℕ) (x : e.Chosen) : Type 0 where
    pub is : FitsIn x.before → AllCuts x.before
    pub found : AreIn x.before
    pub inside : list_end x.before ≤ n + (weights x.before + value_room x.rest)
    pub rest : FitsIn x.before → r.IsExpression P f x.rest

  pub chosen_is : (n at : ℕ) (x : Cut Expression) → IsValue n 0 (free_from n) x → IsChosen n (e.chosen at x)
  chosen_is n at x h = record { is = h.cuts.is; found = h.cuts.found; inside = (let inside = h.cuts.inside in omega (arith, inside)); rest = h.rest }

  no_calls : (callee : ℕ) → Contains [] callee → ⊥
  no_calls callee inside = in_none callee inside

  pub test_is : (n : ℕ) (x : e.Chosen) → IsChosen n x → IsAsked whole P number f n (e.test x)
  test_is n x h =
      let last : Statement = Statement.Test x.offset x.rest in
      let w = behind_weight x.before last in
      record {
        is = λ fit.
            let fits = behind_fits (length f.locals) x.before last fit in
            behind_condition x.before last (h.is fits.0) (h.rest fits.0);
        few = behind_end (n + (statement_weight (e.test x) + 1)) x.before last (let inside = h.inside in omega (arith, inside, w)) (omega arith);
        calls = behind_calls x.before last h.found (λ callee inside. absurd (no_calls callee inside));
      }

  no_creates : (list : List (ℕ × ℕ)) → Each (λ _ _. ⊥) list → list ≡ []
  no_creates [] none = refl
  no_creates (c ∷ list) none = absurd (none c.0 c.1 (0, omega arith, refl))

  -- the operand that is chosen keeps its value in the local n
  pub keep_found : (n : ℕ) (ty : IntegerType) (x : e.Chosen) → IsChosen n x → IsFound (e.keep n ty x)
  keep_found n ty x h =
      let last : Statement = Statement.Keep x.offset n ty x.rest in
      record {
        calls = behind_calls x.before last h.found (λ callee inside. absurd (no_calls callee inside));
        creates =
            no_creates (r.creates_of (behind_cuts x.before last))
            (behind_creates (λ _ _. ⊥) x.before last h.found (λ thread routine inside. absurd (in_none (thread, routine) inside)));
      }

  pub keep_is : (n : ℕ) (ty : IntegerType) (x : e.Chosen) → Slots → f.declared_locals ≤ n → IsChosen n x → slots_end (e.keep n ty x) ≤ length f.locals →
      r.IsCut P f (e.keep n ty x)
  keep_is n ty x slots from h fit =
      let last : Statement = Statement.Keep x.offset n ty x.rest in
      let fits = behind_fits (length f.locals) x.before last fit in
      behind_cut x.before last (h.is fits.0) (slots n from (let le = fits.1 in omega (arith, le)), h.rest fits.0)

  pub keep_few : (n : ℕ) (ty : IntegerType) (x : e.Chosen) → IsChosen n x → slots_end (e.keep n ty x) ≤ n + (statement_weight (e.keep n ty x) + 1)
  keep_few n ty x h =
      let last : Statement = Statement.Keep x.offset n ty x.rest in
      let w = behind_weight x.before last in
      behind_end (n + (statement_weight (e.keep n ty x) + 1)) x.before last (let inside = h.inside in omega (arith, inside, w)) (omega (arith, w))

  pub keep_end : (n : ℕ) (ty : IntegerType) (x : e.Chosen) → n < slots_end (e.keep n ty x)
  keep_end n ty x =
      let last : Statement = Statement.Keep x.offset n ty x.rest in
      let fits = behind_fits (slots_end (e.keep n ty x)) x.before last (omega arith) in
      let le = fits.1 in
      omega (arith, le)

  pub conditional_is : (n offset : ℕ) (c : Statement) (x z : e.Chosen) → Slots → f.declared_locals ≤ n → IsAsked whole P number f n c → IsChosen n x → IsChosen n z →
      IsChosen n (e.conditional n offset c x z)
  conditional_is n offset c x z slots from asked h k =
      let ty = e.common_type x z in
      let a : Statement = e.keep n ty x in
      let b : Statement = e.keep n ty z in
      let whole_if : Statement = Statement.If c a b in
      let two = max (slots_end a) (slots_end b) in
      let ha = keep_found n ty x h in
      let hb = keep_found n ty z k in
      let bound : ℕ = n + (weights (whole_if ∷ []) + (0 + 1)) in
      record {
        is = λ fits.
            let fit = of_one whole_if (length f.locals) fits in
            let later = second_of_max (slots_end c) two (length f.locals) fit in (
              (
                asked.is (first_of_max (slots_end c) two (length f.locals) fit),
                keep_is n ty x slots from h (first_of_max (slots_end a) (slots_end b) (length f.locals) later),
                keep_is n ty z slots from k (second_of_max (slots_end a) (slots_end b) (length f.locals) later),
              ),
              tt,
            );
        found = (
          record {
            calls = both_found whole number (calls_of c) (calls_of a ++ calls_of b) asked.calls (both_found whole number (calls_of a) (calls_of b) ha.calls hb.calls);
            creates = none_both (r.creates_of a) (r.creates_of b) ha.creates hb.creates;
          },
          tt,
        );
        inside =
            (let fc = asked.few in
            let fa = keep_few n ty x h in
            let fb = keep_few n ty z k in
            end_one whole_if bound
            (max_of_both (slots_end c) two bound (omega (arith, fc)) (max_of_both (slots_end a) (slots_end b) bound (omega (arith, fa)) (omega (arith, fb)))));
        rest = λ fit.
            let all = of_one whole_if (length f.locals) fit in
            let later = second_of_max (slots_end c) two (length f.locals) all in
            let first = first_of_max (slots_end a) (slots_end b) (length f.locals) later in
            let own = keep_end n ty x in
            slots n from (omega (arith, own, first));
      }

  -- the value of the outermost conditional
  pub choice_is : (n p : ℕ) (old : Cuts) (x : e.Chosen) → f.declared_locals < 0xffff_ffff → AreCuts n p old → IsChosen old.next x → IsValue n p old (e.with_choice old x)
  choice_is n p old x small h chosen = record {
    cuts = keep_all n p 0 old old x.before small h (more_room n p (p + 0) old (omega arith) h) (omega arith)
        (λ fit. chosen.is (end_back old.before x.before (length f.locals) fit)) chosen.found (value_room x.rest) (omega arith)
        (let inside = chosen.inside in let few = h.few in omega (arith, inside, few));
    more = end_grows old x.before;
    rest = λ fit. chosen.rest (end_back old.before x.before (length f.locals) fit);
  }
