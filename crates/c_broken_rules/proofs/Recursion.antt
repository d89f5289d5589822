-- The rule on recursion: the first fault of a text, where it defines fewer than 2 ^ 32 functions.
use Rattle.std.proofs.Common.{◌≡◌, refl, sym, subst, ap, ◌∙◌, inl, inr, ℕ, ◌<◌, Bool, true, false, List, [], ◌∷◌, ◌++◌, map, length, Option, Some, None}
use Rattle.std.specs.Prelude.{◌⊎◌, Contains, fold, nat_eq, if◌then◌else◌}
use Rattle.std.proofs.lemmas.Option.{same_Some, none-some}
use Rattle.std.proofs.lemmas.List.Elements.{Contains-append_left, Contains-append_right, Contains-append_cases, Contains-push, Contains-push_cases}
use Rattle.std.proofs.lemmas.Bool.{eqb-true, eq-eqb, true≢false}
use Rattle.lists.proofs.Places.{in_none}
use Rattle.c_call_graph.specs.Graphs as graphs
use Rattle.c_call_graph.specs.Reaching.{Leads}
use Rattle.c_tree.specs.declared.declaration.TranslationUnit.{TranslationUnit}
use Rattle.c_rules.specs.declared.fault.Rule.{Rule}
use Rattle.c_rules.specs.declared.fault.Rule.TheVariants as rule
use Rattle.c_rules.specs.declared.fault.Fault.{Fault}
use Rattle.c_rules.specs.declared.findings.CallSite.{CallSite}
use Rattle.c_rules.specs.Faults.{first}
use Rattle.c_resolution.specs.CallRules.{call_of, with_call, fault_if}
use Rattle.c_resolution.specs.Resolving.{IsFirstFault, behind, routines_given}
use Rattle.c_broken_rules.specs.Parts.{Part, parts}
use Rattle.c_broken_rules.specs.Breaks.{Breaks, CallsAt, LeadsTo}
use Rattle.c_broken_rules.specs.Laws.{FaultsAreBrokenOfFew, BrokenAreFaultsOfFew, IsNotBehind, IsOfFew}
use Rattle.c_broken_rules.proofs.Orders.{IsReached, reached_first, reached_new, first_of_two}
use Rattle.c_broken_rules.proofs.Ledgers.{Entered, any_contains, contains_any}
use Rattle.c_broken_rules.proofs.Firsts.{calls_keep, IsOfThreads, creates_of_threads}
use Rattle.c_broken_rules.proofs.Sites.{SiteAt, IsRecursion, IsRecursive, site_ledger, site}
use Rattle.c_broken_rules.proofs.SiteScope.{D, text_sites, text_counts}
use Rattle.c_broken_rules.proofs.Defined.{noted_defined, defined_noted, defined_below}

abbrev fault_at : ℕ → Fault
fault_at at = record { rule = rule.Recursive; offset = at }

-- ---- elements of lists

module _ {A : Type 0} where
  at_head : (x : A) (xs : List A) → Contains (x ∷ xs) x
  at_head x xs = Contains-append_left (x ∷ []) xs x (Contains-push [] x)

  only_one : (x y : A) → Contains {X = A} [] y ⊎ (x ≡ y) → x ≡ y
  only_one x y (inl c) = absurd (in_none y c)
  only_one x y (inr e) = e

  head_or : (x y : A) (xs : List A) → Contains (x ∷ []) y ⊎ Contains xs y → (x ≡ y) ⊎ Contains xs y
  head_or x y xs (inl c) = inl (only_one x y (Contains-push_cases [] x y c))
  head_or x y xs (inr c) = inr c

  head_cases : (x y : A) (xs : List A) → Contains (x ∷ xs) y → (x ≡ y) ⊎ Contains xs y
  head_cases x y xs c = head_or x y xs (Contains-append_cases (x ∷ []) xs y c)

-- ---- sites as a graph

-- one of the sites is of a call by the one of the other
record IsCalled (sites : List CallSite) (g h : ℕ) : Type 0 where
  s : CallSite
  there : Contains sites s
  caller : s.caller ≡ g
  callee : s.callee ≡ h

called_here : (found : List ℕ) (s : CallSite) (sites : List CallSite) (g h : ℕ) → nat_eq s.caller g ≡ true → Contains found h ⊎ (s.callee ≡ h) →
    Contains found h ⊎ IsCalled (s ∷ sites) g h
called_here found s sites g h is (inl c) = inl c
called_here found s sites g h is (inr e) = inr (record { s = s; there = at_head s sites; caller = eqb-true s.caller g is; callee = e })

one_callee : (found : List ℕ) (s : CallSite) (sites : List CallSite) (g h : ℕ) (b : Bool) → nat_eq s.caller g ≡ b → Contains (if b then found ++ s.callee ∷ [] else found) h →
    Contains found h ⊎ IsCalled (s ∷ sites) g h
one_callee found s sites g h true is c = called_here found s sites g h is (Contains-push_cases found s.callee h c)
one_callee found s sites g h false is c = inl c

more_callees : (found : List ℕ) (s : CallSite) (sites : List CallSite) (g h : ℕ) → Contains (graphs.with_call g found (call_of s)) h ⊎ IsCalled sites g h →
    Contains found h ⊎ IsCalled (s ∷ sites) g h
more_callees found s sites g h (inl c) = one_callee found s sites g h (nat_eq s.caller g) refl c
more_callees found s sites g h (inr k) = inr (record { s = k.s; there = Contains-append_right (s ∷ []) sites k.s k.there; caller = k.caller; callee = k.callee })

callee_from : (sites : List CallSite) (found : List ℕ) (g h : ℕ) → Contains (fold (graphs.with_call g) found (map call_of sites)) h → Contains found h ⊎ IsCalled sites g h
callee_from [] found g h c = inl c
callee_from (s ∷ sites) found g h c = more_callees found s sites g h (callee_from sites (graphs.with_call g found (call_of s)) g h c)

called_by : (sites : List CallSite) (g h : ℕ) → Contains {X = ℕ} [] h ⊎ IsCalled sites g h → IsCalled sites g h
called_by sites g h (inl c) = absurd (in_none h c)
called_by sites g h (inr k) = k

one_keeps : (found : List ℕ) (s : CallSite) (h : ℕ) (b : Bool) → Contains found h → Contains (if b then found ++ s.callee ∷ [] else found) h
one_keeps found s h true c = Contains-append_left found (s.callee ∷ []) h c
one_keeps found s h false c = c

callee_keeps : (sites : List CallSite) (found : List ℕ) (g h : ℕ) → Contains found h → Contains (fold (graphs.with_call g) found (map call_of sites)) h
callee_keeps [] found g h c = c
callee_keeps (s ∷ sites) found g h c = callee_keeps sites (graphs.with_call g found (call_of s)) g h (one_keeps found s h (nat_eq s.caller g) c)

one_new : (found : List ℕ) (s : CallSite) (b : Bool) → nat_eq s.caller s.caller ≡ b → Contains (if b then found ++ s.callee ∷ [] else found) s.callee
one_new found s true is = Contains-push found s.callee
one_new found s false is = absurd (true≢false (sym (eq-eqb s.caller s.caller refl) ∙ is))

callee_to : (sites : List CallSite) (found : List ℕ) (s : CallSite) → Contains sites s → Contains (fold (graphs.with_call s.caller) found (map call_of sites)) s.callee
callee_to [] found s c = absurd (in_none s c)
callee_to (y ∷ sites) found s c =
    let rest = graphs.with_call s.caller found (call_of y) in
    elim (head_cases y s sites c) [
      | inl same ↦ callee_keeps sites rest s.caller s.callee
          (subst (λ (z : CallSite). Contains (graphs.with_call s.caller found (call_of z)) s.callee) (sym same) (one_new found s (nat_eq s.caller s.caller) refl))
      | inr k ↦ callee_to sites rest s k
    ]

-- ---- the first fault of calls

record IsCycle (leads : ℕ → ℕ → Bool) (sites : List CallSite) (f : Fault) : Type 0 where
  s : CallSite
  there : Contains sites s
  back : leads s.callee s.caller ≡ true
  is : fault_at s.offset ≡ f

cycle_here : (leads : ℕ → ℕ → Bool) (s : CallSite) (sites : List CallSite) (a : Option Fault) (f : Fault) (b : Bool) → leads s.callee s.caller ≡ b →
    (a ≡ Some f) ⊎ (fault_if b rule.Recursive s.offset ≡ Some f) → (a ≡ Some f) ⊎ IsCycle leads (s ∷ sites) f
cycle_here leads s sites a f b back (inl e) = inl e
cycle_here leads s sites a f true back (inr e) = inr (record { s = s; there = at_head s sites; back = back; is = same_Some (fault_at s.offset) f e })
cycle_here leads s sites a f false back (inr e) = absurd (none-some f e)

cycle_more : (leads : ℕ → ℕ → Bool) (s : CallSite) (sites : List CallSite) (a : Option Fault) (f : Fault) → (with_call leads a s ≡ Some f) ⊎ IsCycle leads sites f →
    (a ≡ Some f) ⊎ IsCycle leads (s ∷ sites) f
cycle_more leads s sites a f (inl e) =
    let b = leads s.callee s.caller in
    cycle_here leads s sites a f b refl (first_of_two a (fault_if b rule.Recursive s.offset) f e)
cycle_more leads s sites a f (inr k) = inr (record { s = k.s; there = Contains-append_right (s ∷ []) sites k.s k.there; back = k.back; is = k.is })

cycle_from : (leads : ℕ → ℕ → Bool) (sites : List CallSite) (a : Option Fault) (f : Fault) → fold (with_call leads) a sites ≡ Some f → (a ≡ Some f) ⊎ IsCycle leads sites f
cycle_from leads [] a f h = inl h
cycle_from leads (s ∷ sites) a f h = cycle_more leads s sites a f (cycle_from leads sites (with_call leads a s) f h)

cycle_reached : (leads : ℕ → ℕ → Bool) (sites : List CallSite) (a : Option Fault) (s : CallSite) → Contains sites s → leads s.callee s.caller ≡ true →
    IsReached (fault_at s.offset) (fold (with_call leads) a sites)
cycle_reached leads [] a s c back = absurd (in_none s c)
cycle_reached leads (y ∷ sites) a s c back =
    let x = fault_at s.offset in
    elim (head_cases y s sites c) [
      | inl same ↦ calls_keep leads sites (with_call leads a y) x
          (subst (λ (z : CallSite). IsReached x (with_call leads a z)) (sym same)
          (subst (λ b. IsReached x (first a (fault_if b rule.Recursive s.offset))) (sym back) (reached_new x a)))
      | inr k ↦ cycle_reached leads sites (with_call leads a y) s k back
    ]

recursion_apart : rule.Recursive ≡ rule.Threads → ⊥
recursion_apart e = cc

module _ (tree : TranslationUnit) (few : IsOfFew tree) where
  abbrev sites : List CallSite
  sites = (behind tree.declarations).found.calls

  abbrev functions : ℕ
  functions = length (behind tree.declarations).tables.functions

  -- ---- the calls of a text

  by_part : (s : CallSite) (part : Part) → Contains (parts tree) part → SiteAt (D tree few) part (Some s) → CallsAt tree s.caller s.callee s.offset
  by_part s (Part.Call w name) c h = record {
    w = w;
    name = name;
    stands = c;
    body = h.body;
    f = h.f;
    means = h.means;
    defined = noted_defined tree few h.f.name.bytes s.callee h.defined;
    here = h.here;
  }
  by_part s other c h = absurd h

  in_parts : (s : CallSite) → Contains {X = CallSite} [] s ⊎ (Unit {0} → Entered (site_ledger (D tree few)) (parts tree) (Some s)) →
      Entered (site_ledger (D tree few)) (parts tree) (Some s)
  in_parts s (inl c) = absurd (in_none s c)
  in_parts s (inr h) = h tt

  site_calls : (s : CallSite) → Contains sites s → CallsAt tree s.caller s.callee s.offset
  site_calls s c =
      let m = any_contains (λ part. SiteAt (D tree few) part (Some s)) (parts tree) (in_parts s ((text_sites tree few).from (Some s) c)) in
      by_part s m.0 m.1 m.2

  call_site : (f g at : ℕ) → CallsAt tree f g at → Contains sites (site f g at)
  call_site f g at c =
      (text_sites tree few).finds (Some (site f g at))
      (contains_any (λ part. SiteAt (D tree few) part (Some (site f g at))) (parts tree) (Part.Call c.w c.name) c.stands
      (record { f = c.f; means = c.means; defined = defined_noted tree few c.f.name.bytes g c.defined; body = c.body; here = c.here }))

  below : (f g at : ℕ) → CallsAt tree f g at → g < functions
  below f g at c = subst (λ n. g < n) (sym (text_counts tree few)) (defined_below tree few c.f.name.bytes g c.defined)

  end_below : {f g : ℕ} → LeadsTo tree f g → f < functions → g < functions
  end_below LeadsTo.Same lt = lt
  end_below (LeadsTo.Further {g = g} {h = h} {at = at} way call) lt = below g h at call

  -- ---- where calls lead

  to_call : (g h : ℕ) → IsCalled sites g h → (at : ℕ) × CallsAt tree g h at
  to_call g h k = (
    k.s.offset,
    subst (λ m. CallsAt tree m h k.s.offset) k.caller (subst (λ m. CallsAt tree k.s.caller m k.s.offset) k.callee (site_calls k.s k.there)),
  )

  leads_to : {f g : ℕ} → Leads functions (map call_of sites) f g → LeadsTo tree f g
  leads_to Leads.Here = LeadsTo.Same
  leads_to (Leads.Further {g = g} way h called inside) =
      LeadsTo.Further (leads_to way) (to_call g h (called_by sites g h (callee_from sites [] g h called))).1

  to_leads : {f g : ℕ} → LeadsTo tree f g → Leads functions (map call_of sites) f g
  to_leads LeadsTo.Same = Leads.Here
  to_leads (LeadsTo.Further {g = g} {h = h} {at = at} way call) =
      Leads.Further (to_leads way) h (callee_to sites [] (site g h at) (call_site g h at call)) (below g h at call)

  -- ---- the rule

  no_part : (part : Part) → SiteAt (D tree few) part None → ⊥
  no_part (Part.Call w name) h = h
  no_part other h = h

  not_in_parts : IsRecursive None ⊎ (Unit {0} → Entered (site_ledger (D tree few)) (parts tree) None) → ⊥
  not_in_parts (inl h) = h
  not_in_parts (inr h) =
      let m = any_contains (λ part. SiteAt (D tree few) part None) (parts tree) (h tt) in
      no_part m.0 m.2

  not_found : (at : ℕ) → (behind tree.declarations).found.fault ≡ Some (fault_at at) → ⊥
  not_found at e = not_in_parts ((text_sites tree few).from None (subst IsRecursive (sym e) tt))

  by_calls : (fault : Option Fault) (h : IsFirstFault tree fault) (at : ℕ) →
      ((behind tree.declarations).found.fault ≡ Some (fault_at at)) ⊎ IsCycle h.is_calls.leads sites (fault_at at) → Breaks tree rule.Recursive at
  by_calls fault h at (inl e) = absurd (not_found at e)
  by_calls fault h at (inr k) =
      let d = (h.is_calls.decides k.s.callee k.s.caller).0 k.back in
      subst (Breaks tree rule.Recursive) (ap (λ (f : Fault). f.offset) k.is)
      (Breaks.Recursion k.s.caller k.s.callee k.s.offset (site_calls k.s k.there) (leads_to d.2))

  by_either : (fault : Option Fault) (h : IsFirstFault tree fault) (at : ℕ) →
      (h.calls ≡ Some (fault_at at)) ⊎ ((routines_given (behind tree.declarations)).1 ≡ Some (fault_at at)) → Breaks tree rule.Recursive at
  by_either fault h at (inl e) =
      by_calls fault h at (cycle_from h.is_calls.leads sites (behind tree.declarations).found.fault (fault_at at) (sym h.is_calls.is ∙ e))
  by_either fault h at (inr e) =
      absurd (recursion_apart (subst IsOfThreads e (creates_of_threads tree)))

  sound : (at : ℕ) → IsFirstFault tree (Some (fault_at at)) → Breaks tree rule.Recursive at
  sound at h = by_either (Some (fault_at at)) h at (first_of_two h.calls (routines_given (behind tree.declarations)).1 (fault_at at) (sym h.is))

  call_reached : (fault : Option Fault) (h : IsFirstFault tree fault) (f g at : ℕ) → CallsAt tree f g at → LeadsTo tree g f → IsReached (fault_at at) h.calls
  call_reached fault h f g at call back =
      let lt = below f g at call in
      let leads = (h.is_calls.decides g f).1 (lt, end_below back lt, to_leads back) in
      subst (IsReached (fault_at at)) (sym h.is_calls.is)
      (cycle_reached h.is_calls.leads sites (behind tree.declarations).found.fault (site f g at) (call_site f g at call) leads)

  broken_reached : (fault : Option Fault) (h : IsFirstFault tree fault) (r : Rule) (at : ℕ) → Breaks tree r at → IsRecursion r → IsReached (fault_at at) h.calls
  broken_reached fault h rule at (Breaks.Recursion f g there call back) is = call_reached fault h f g there call back
  broken_reached fault h rule at other is = absurd is

  complete : (fault : Option Fault) (at : ℕ) → IsFirstFault tree fault → Breaks tree rule.Recursive at → IsNotBehind fault rule.Recursive at
  complete fault at h b =
      let k = subst (IsReached (fault_at at)) (sym h.is)
      (reached_first (fault_at at) h.calls (routines_given (behind tree.declarations)).1 (broken_reached fault h rule.Recursive at b tt)) in
      record { f = k.f; is = k.is; least = k.least }

pub recursion_sound : FaultsAreBrokenOfFew rule.Recursive
recursion_sound tree at few h = sound tree few at h

pub recursion_complete : BrokenAreFaultsOfFew rule.Recursive
recursion_complete tree fault at few h b = complete tree few fault at h b
