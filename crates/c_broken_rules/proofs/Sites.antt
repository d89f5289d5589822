-- Calls: the sites that a walk writes of them.
use Rattle.std.proofs.Common.{◌≡◌, refl, sym, subst, ap, ◌∙◌, inl, inr, ℕ, Bool, true, false, List, [], ◌∷◌, ◌++◌, Option, Some, None}
use Rattle.std.specs.Prelude.{◌⊎◌, Contains, if◌then◌else◌}
use Rattle.std.proofs.lemmas.Option.{same_Some, none-some}
use Rattle.std.proofs.lemmas.List.Elements.{Contains-append_left, Contains-push, Contains-push_cases}
use Rattle.c_tree.specs.declared.expression.Name.{Name}
use Rattle.c_tree.specs.declared.declaration.Function.{Function}
use Rattle.c_rules.specs.declared.fault.Rule.{Rule}
use Rattle.c_rules.specs.declared.fault.Rule.TheVariants as rule
use Rattle.c_rules.specs.declared.fault.Fault.{Fault}
use Rattle.c_rules.specs.declared.findings.CallSite.{CallSite}
use Rattle.c_rules.specs.declared.findings.Findings.{Findings}
use Rattle.c_rules.specs.declared.library.LibraryFunction.{LibraryFunction}
use Rattle.c_rules.specs.declared.names.Meaning.TheVariants as meaning
use Rattle.c_rules.specs.declared.names.Known.{Known}
use Rattle.c_rules.specs.declared.names.Known.TheVariants as known
use Rattle.c_rules.specs.declared.names.Scope.{Scope}
use Rattle.c_rules.specs.Faults.{first, is_before}
use Rattle.c_rules.specs.Findings as findings
use Rattle.c_rules.specs.Levels.{named_in}
use Rattle.c_rules.specs.Names.{look_up}
use Rattle.c_rules.specs.Walks.{Finds, pure, calls, creates}
use Rattle.c_expressions.specs.Callees as c
use Rattle.c_broken_rules.specs.Sight.{Declared, Where}
use Rattle.c_broken_rules.specs.Parts.{Part, Parts}
use Rattle.c_broken_rules.specs.Breaks.{StandsFor, IsIn}
use Rattle.c_broken_rules.proofs.Ledgers.{Ledger, Entered, Good, good_pure, good_then, good_before, nothing_new, quiet}
use Rattle.c_broken_rules.proofs.Sights.{Agrees, sees, header_in, same_function, not_library}
use Rattle.c_broken_rules.proofs.UnknownNames.{named_function, no_function_meant}
use Rattle.c_broken_rules.proofs.Quiets as q
use Rattle.c_broken_rules.proofs.Quiets.{IsQuiet, OthersAreQuiet}
use Rattle.c_broken_rules.proofs.Events.{IsOther}

-- ---- recursion is no rule that a walk finds broken

abbrev pub IsRecursion : Rule → Type 0
IsRecursion rule.Recursive = Unit {0}
IsRecursion r = ⊥

abbrev pub IsRecursive : Option Fault → Type 0
IsRecursive None = ⊥
IsRecursive (Some f) = IsRecursion f.rule

chosen : (a x : Fault) (b : Bool) → (IsRecursion x.rule → ⊥) → IsRecursive (if b then Some x else Some a) → IsRecursion a.rule
chosen a x true out h = absurd (out h)
chosen a x false out h = h

recursive_before : (a : Option Fault) (x : Fault) → (IsRecursion x.rule → ⊥) → IsRecursive (first a (Some x)) → IsRecursive a
unfolding first
recursive_before None x out h = out h
recursive_before (Some a) x out h = chosen a x (is_before x a) out h

not_recursion : (r : Rule) → IsOther r → IsRecursion r → ⊥
not_recursion rule.Recursive h k = h
not_recursion r h k = k

-- ---- the ledger of sites

abbrev pub site : ℕ → ℕ → ℕ → CallSite
site caller callee at = record { caller = caller; callee = callee; offset = at }

abbrev pub Given : (CallSite → Type 0) → Option CallSite → Type 0
Given Is None = ⊥
Given Is (Some x) = Is x

not_given : (Is : CallSite → Type 0) → ((x : CallSite) → Is x → ⊥) → (x : Option CallSite) → Given Is x → ⊥
not_given Is none None h = h
not_given Is none (Some x) h = none x h

-- an entry is a site, or None for recursion that is found in a part
abbrev pub SeenIn : Findings → Option CallSite → Type 0
SeenIn found None = IsRecursive found.fault
SeenIn found (Some x) = Contains found.calls x

abbrev pub ReachedIn : Findings → Option CallSite → Type 0
ReachedIn found None = Unit {0}
ReachedIn found (Some x) = Contains found.calls x

-- the number of the function in whose body a part stands
abbrev pub number_in : Option (ℕ × Function) → Option ℕ
number_in None = None
number_in (Some b) = Some b.0

no_body : (b : Option (ℕ × Function)) (n : ℕ) → number_in b ≡ None → IsIn b n → ⊥
no_body None n e h = h
no_body (Some b) n e h = none-some b.0 (sym e)

is_body : (b : Option (ℕ × Function)) (n : ℕ) → number_in b ≡ Some n → IsIn b n
is_body None n e = absurd (none-some n e)
is_body (Some b) n e = same_Some b.0 n e

one_body : (b : Option (ℕ × Function)) (n m : ℕ) → IsIn b n → IsIn b m → n ≡ m
one_body None n m h k = absurd h
one_body (Some b) n m h k = sym h ∙ k

module _ (D : List (List ℕ × ℕ)) where
  -- the site of a call of a function of these definitions
  pub record IsSite (w : Where) (name : Name) (x : CallSite) : Type 0 where
    pub f : Function
    pub means : StandsFor w name (Declared.OfFunction f)
    pub defined : named_in D f.name.bytes ≡ Some x.callee
    pub body : IsIn w.body x.caller
    pub here : name.offset ≡ x.offset

  abbrev pub SiteAt : Part → Option CallSite → Type 0
  SiteAt (Part.Call w name) x = Given (IsSite w name) x
  SiteAt other x = ⊥

  abbrev pub site_ledger : Ledger
  site_ledger = record {
    Entry = Option CallSite;
    Seen = SeenIn;
    Reached = ReachedIn;
    Judged = λ x. Unit {0};
    At = SiteAt;
    Order = λ a b ps. Unit {0};
    order_none = λ a. tt;
    order_both = λ a b c ps qs h k. tt;
    order_with = λ a b part ps none h. tt;
  }

  abbrev pub Plain : {A : Type 0} → Finds A → Parts → Type 0
  Plain w parts = Good site_ledger w parts

  -- ---- what is no site

  still_seen : (r : Rule) (at : ℕ) → (IsRecursion r → ⊥) → (found : Findings) (x : Option CallSite) → SeenIn (findings.broken r at found) x → SeenIn found x
  unfolding findings.broken
  still_seen r at h found None s = recursive_before found.fault (record { rule = r; offset = at }) h s
  still_seen r at h found (Some x) s = s

  still_reached : (r : Rule) (at : ℕ) (found : Findings) (x : Option CallSite) → ReachedIn found x → ReachedIn (findings.broken r at found) x
  unfolding findings.broken
  still_reached r at found None s = s
  still_reached r at found (Some x) s = s

  -- recursion is no rule that a walk finds broken
  pub broken : (r : Rule) → (IsRecursion r → ⊥) → IsQuiet site_ledger r
  broken r h at = record {
    writes = λ found. record {
      from = λ x s. inl (still_seen r at h found x s);
      keeps = λ x s. still_reached r at found x s;
      finds = λ x s. absurd s;
      order = tt;
    };
  }

  pub others : OthersAreQuiet site_ledger
  others r at h = broken r (not_recursion r h) at

  created_seen : (thread routine at : ℕ) (found : Findings) (x : Option CallSite) → SeenIn (findings.created thread routine at found) x → SeenIn found x
  created_seen thread routine at found None s = s
  created_seen thread routine at found (Some x) s = s

  created_reached : (thread routine at : ℕ) (found : Findings) (x : Option CallSite) → ReachedIn found x → ReachedIn (findings.created thread routine at found) x
  created_reached thread routine at found None s = s
  created_reached thread routine at found (Some x) s = s

  pub creation_quiet : (thread routine at : ℕ) → Plain (creates thread routine at) []
  creation_quiet thread routine at = record {
    writes = λ found. record {
      from = λ x s. inl (created_seen thread routine at found x s);
      keeps = λ x s. created_reached thread routine at found x s;
      finds = λ x s. absurd s;
      order = tt;
    };
  }

  no_site : {A : Type 0} {v : Finds A} (w : Where) (name : Name) → ((x : CallSite) → IsSite w name x → ⊥) → Plain v [] → Plain v (Part.Call w name ∷ [])
  no_site w name none h = quiet site_ledger (Part.Call w name) (not_given (IsSite w name) none) h

  -- ---- a site

  same_site : (w : Where) (name : Name) (x y : CallSite) → IsSite w name x → IsSite w name y → x ≡ y
  same_site w name x y h k =
      let same = same_function h.f k.f (same_Some _ _ (sym h.means.declared ∙ k.means.declared)) in
      let callee = same_Some x.callee y.callee (sym h.defined ∙ ap (λ (f : Function). named_in D f.name.bytes) same ∙ k.defined) in
      let caller = one_body w.body x.caller y.caller h.body k.body in
      let at = sym h.here ∙ k.here in
      ap (λ n. site n x.callee x.offset) caller ∙ ap (λ n. site y.caller n x.offset) callee ∙ ap (λ n. site y.caller y.callee n) at

  site_from : (calls : List CallSite) (w : Where) (name : Name) (x y : CallSite) → IsSite w name x → Contains calls y ⊎ (x ≡ y) →
      Contains calls y ⊎ (Unit {0} → Entered site_ledger (Part.Call w name ∷ []) (Some y))
  site_from calls w name x y is (inl c) = inl c
  site_from calls w name x y is (inr e) = inr (λ _. inl (subst (IsSite w name) e is))

  call_from : (caller callee : ℕ) (w : Where) (name : Name) (found : Findings) → IsSite w name (site caller callee name.offset) → (x : Option CallSite) →
      SeenIn (findings.called (Some caller) callee name.offset found) x → SeenIn found x ⊎ (Unit {0} → Entered site_ledger (Part.Call w name ∷ []) x)
  call_from caller callee w name found is None s = inl s
  call_from caller callee w name found is (Some y) s =
      site_from found.calls w name (site caller callee name.offset) y is (Contains-push_cases found.calls (site caller callee name.offset) y s)

  call_keeps : (caller callee at : ℕ) (found : Findings) (x : Option CallSite) → ReachedIn found x → ReachedIn (findings.called (Some caller) callee at found) x
  call_keeps caller callee at found None s = s
  call_keeps caller callee at found (Some y) s = Contains-append_left found.calls (site caller callee at ∷ []) y s

  call_finds : (caller callee : ℕ) (w : Where) (name : Name) (found : Findings) → IsSite w name (site caller callee name.offset) → (x : Option CallSite) →
      Entered site_ledger (Part.Call w name ∷ []) x → ReachedIn (findings.called (Some caller) callee name.offset found) x
  call_finds caller callee w name found is None s = tt
  call_finds caller callee w name found is (Some y) (inl h) =
      let z = site caller callee name.offset in
      subst (λ x. Contains (found.calls ++ z ∷ []) x) (same_site w name z y is h) (Contains-push found.calls z)
  call_finds caller callee w name found is (Some y) (inr h) = absurd h

  call_is : (caller callee : ℕ) (w : Where) (name : Name) → IsSite w name (site caller callee name.offset) → Plain (calls (Some caller) callee name.offset) (Part.Call w name ∷ [])
  call_is caller callee w name is = record {
    writes = λ found. record {
      from = λ x s. call_from caller callee w name found is x s;
      keeps = λ x s. call_keeps caller callee name.offset found x s;
      finds = λ x s. call_finds caller callee w name found is x s;
      order = tt;
    };
  }

  -- ---- a name that is called

  pub record Stands (s : Scope) (w : Where) : Type 0 where
    pub names : Agrees D s w
    pub function : s.function ≡ number_in w.body

  called_by : (w : Where) (name : Name) (f : Function) (callee : ℕ) → StandsFor w name (Declared.OfFunction f) → named_in D f.name.bytes ≡ Some callee → (o : Option ℕ) →
      number_in w.body ≡ o → Plain (calls o callee name.offset) (Part.Call w name ∷ [])
  called_by w name f callee means defined None e =
      no_site w name (λ x h. no_body w.body x.caller e h.body) (record { writes = λ found. nothing_new site_ledger found })
  called_by w name f callee means defined (Some caller) e =
      call_is caller callee w name (record { f = f; means = means; defined = defined; body = is_body w.body caller e; here = refl })

  no_definition : (w : Where) (name : Name) (f : Function) → StandsFor w name (Declared.OfFunction f) → named_in D f.name.bytes ≡ None → (x : CallSite) → IsSite w name x → ⊥
  no_definition w name f means none x h =
      let same = same_function f h.f (same_Some _ _ (sym means.declared ∙ h.means.declared)) in
      none-some x.callee (sym none ∙ ap (λ (g : Function). named_in D g.name.bytes) same ∙ h.defined)

  definition_by : (s : Scope) (w : Where) (name : Name) (f : Function) → Stands s w → StandsFor w name (Declared.OfFunction f) → (o : Option ℕ) → named_in D f.name.bytes ≡ o →
      Plain (c.called s name.offset o) (Part.Call w name ∷ [])
  unfolding c.called
  definition_by s w name f stands means None e = no_site w name (no_definition w name f means e) (good_pure site_ledger None)
  definition_by s w name f stands means (Some callee) e =
      good_before site_ledger (calls s.function callee name.offset) (λ _. pure (Some callee)) (Part.Call w name ∷ [])
      (called_by w name f callee means e s.function (sym stands.function)) (λ _. good_pure site_ledger (Some callee))

  header_is : (s : Scope) (w : Where) (name : Name) (f : Function) (count : ℕ) (is_value : Bool) → Stands s w → StandsFor w name (Declared.OfFunction f) →
      Plain (c.header_call s count is_value name.offset (Some (header_in D f))) (Part.Call w name ∷ [])
  header_is s w name f count is_value stands means =
      good_then site_ledger (c.header_rules (header_in D f) count is_value name.offset) (λ _. c.called s name.offset (named_in D f.name.bytes)) [] (Part.Call w name ∷ [])
      (q.header_quiet site_ledger others (broken rule.Unknown (λ h. h)) (broken rule.Threads (λ h. h)) (header_in D f) count is_value name.offset)
      (λ _. definition_by s w name f stands means (named_in D f.name.bytes) refl)

  pub function_is : (s : Scope) (w : Where) (name : Name) (number count : ℕ) (is_value : Bool) → Stands s w → look_up s name.bytes ≡ known.Declared (meaning.Function number) →
      Plain (c.function_name s number count is_value name.offset) (Part.Call w name ∷ [])
  unfolding c.function_name
  function_is s w name number count is_value stands is =
      let n = named_function D s w name number stands.names is in
      subst (λ o. Plain (c.header_call s count is_value name.offset o) (Part.Call w name ∷ [])) (sym n.header)
      (header_is s w name n.f count is_value stands n.means)

  -- a name that is that of no function
  no_call : {A : Type 0} {v : Finds A} (s : Scope) (w : Where) (name : Name) → Stands s w → (x : Known) → look_up s name.bytes ≡ x →
      ((n : ℕ) → x ≡ known.Declared (meaning.Function n) → ⊥) → Plain v [] → Plain v (Part.Call w name ∷ [])
  no_call s w name stands x is out h =
      no_site w name (λ y k. no_function_meant D s w name (sees D s w name.bytes stands.names) (λ n e. out n (sym is ∙ e)) k.f k.means) h

  pub library_is : (s : Scope) (w : Where) (name : Name) (f : LibraryFunction) (count : ℕ) → Stands s w → look_up s name.bytes ≡ known.Library f →
      Plain (c.library_name s f count name.offset) (Part.Call w name ∷ [])
  library_is s w name f count stands is =
      no_call s w name stands (known.Library f) is (λ n e. not_library f (meaning.Function n) e)
      (q.library_quiet site_ledger others (broken rule.Unknown (λ h. h)) (broken rule.Threads (λ h. h)) s f count name.offset)

  no_number : (x : Known) (n : ℕ) → c.number_of x ≡ None → x ≡ known.Declared (meaning.Function n) → ⊥
  no_number x n none e = none-some n (sym none ∙ ap c.number_of e)

  pub misplaced_is : (s : Scope) (w : Where) (name : Name) (count : ℕ) → Stands s w → c.number_of (look_up s name.bytes) ≡ None →
      Plain (c.misplaced s (look_up s name.bytes) count name.offset) (Part.Call w name ∷ [])
  misplaced_is s w name count stands none =
      no_call s w name stands (look_up s name.bytes) refl (λ n e. no_number (look_up s name.bytes) n none e)
      (q.misplaced_quiet site_ledger others (broken rule.Unknown (λ h. h)) (broken rule.Threads (λ h. h)) s (look_up s name.bytes) count name.offset)

  pub no_function : (s : Scope) (w : Where) (name : Name) → Stands s w → c.number_of (look_up s name.bytes) ≡ None →
      Plain (c.no_function (look_up s name.bytes) name.offset) (Part.Call w name ∷ [])
  no_function s w name stands none =
      no_call s w name stands (look_up s name.bytes) refl (λ n e. no_number (look_up s name.bytes) n none e)
      (q.no_function_quiet site_ledger others (broken rule.Unknown (λ h. h)) (broken rule.Threads (λ h. h)) (look_up s name.bytes) name.offset)
