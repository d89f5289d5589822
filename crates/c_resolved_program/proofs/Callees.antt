-- What a name that is called gives: the call of a function of the program, found in the text.
use Rattle.std.proofs.Common.{◌≡◌, refl, ℕ, Bool, false, length, Option, Some, None}
use Rattle.std.specs.Prelude.{◌&&◌, ◌||◌, not, nat_eq, is_none, slice_get, ⊤}
use Rattle.c_rules.specs.declared.fault.Rule.TheVariants as rule
use Rattle.c_rules.specs.declared.findings.Findings.{Findings}
use Rattle.c_rules.specs.declared.library.LibraryFunction.{LibraryFunction}
use Rattle.c_rules.specs.declared.library.LibraryFunction.TheVariants as library
use Rattle.c_rules.specs.declared.names.Meaning.TheVariants as meaning
use Rattle.c_rules.specs.declared.names.Known.{Known}
use Rattle.c_rules.specs.declared.names.Known.TheVariants as known
use Rattle.c_rules.specs.declared.names.Header.{Header}
use Rattle.c_rules.specs.declared.names.Scope.{Scope}
use Rattle.c_rules.specs.Library.{takes}
use Rattle.c_rules.specs.Names.{is_void_type, is_start_routine, gives_pointer}
use Rattle.c_rules.specs.Walks.{pure, finds, finds_if, calls, ◌>>◌}
use Rattle.c_expressions.specs.Callees as c
use Rattle.c_resolved_program.specs.Orders.{IsFoundCall}
use Rattle.c_resolved_program.proofs.Walks.{Shows, shows_pure, shows_then, shows_as, shows_broken, shows_if, shows_call, IfAny}

-- what a header says of a call without fault
pub record IsCalled (h : Header) (count : ℕ) (is_value : Bool) : Type 0 where
  pub defined : is_none h.definition ≡ false
  pub valued : (is_value && is_void_type h.returns) ≡ false
  pub counted : not (nat_eq count (length h.parameters)) ≡ false
  pub placed : (h.is_main || is_start_routine h) ≡ false

-- the number of a definition whose call is found
abbrev pub IsDefined : Findings → ℕ → Header → ℕ → Bool → Option ℕ → Type 0
IsDefined whole number h count is_value callee = (callee ≡ h.definition) × IsCalled h count is_value × IfAny (IsFoundCall whole number) callee

-- what is called by the number of a header
abbrev pub IsCallOf : Findings → ℕ → Option Header → ℕ → Bool → Option ℕ → Type 0
IsCallOf whole number None count is_value callee = ⊥
IsCallOf whole number (Some h) count is_value callee = IsDefined whole number h count is_value callee

-- where a function of the library stands without fault
abbrev pub IsPlaced : Findings → ℕ → Scope → LibraryFunction → Type 0
IsPlaced whole number s library.Exit = (is_none s.function || not (gives_pointer s.gives)) ≡ false
IsPlaced whole number s function = ⊤

-- a name that a rule broke already stands for nothing that is in order
abbrev pub IsApart : Known → Type 0
IsApart (known.Declared meaning.Unusable) = ⊥
IsApart other = ⊤

no_function_by : (k : Known) → IsApart k → c.is_unknown k ≡ false → c.is_usable k ≡ false → ⊥
no_function_by known.Unknown apart unknown usable = cc
no_function_by (known.Declared meaning.Unusable) apart unknown usable = apart
no_function_by (known.Declared (meaning.Variable v)) apart unknown usable = cc
no_function_by (known.Declared meaning.Argument) apart unknown usable = cc
no_function_by (known.Declared (meaning.Object o)) apart unknown usable = cc
no_function_by (known.Declared (meaning.Function header)) apart unknown usable = cc
no_function_by (known.Library function) apart unknown usable = cc

module _ {whole : Findings} where
  pub header_rules_show : (h : Header) (count : ℕ) (is_value : Bool) (at : ℕ) →
      Shows whole ⊤ (λ _. IsCalled h count is_value) (c.header_rules h count is_value at)
  unfolding c.header_rules
  header_rules_show h count is_value at =
      let defined = finds_if (is_none h.definition) rule.Unknown at in
      let valued = finds_if (is_value && is_void_type h.returns) rule.Kind at in
      let counted = finds_if (not (nat_eq count (length h.parameters))) rule.Arguments at in
      let placed = finds_if (h.is_main || is_start_routine h) rule.Threads at in
      shows_then defined (λ _. valued >> (counted >> placed)) (shows_if (is_none h.definition) rule.Unknown at) (λ _.
      shows_then valued (λ _. counted >> placed) (shows_if (is_value && is_void_type h.returns) rule.Kind at) (λ _.
      shows_then counted (λ _. placed) (shows_if (not (nat_eq count (length h.parameters))) rule.Arguments at) (λ _.
      shows_as placed (λ b. b) (λ _ b is. record { defined = b.0.0.1; valued = b.0.1; counted = b.1; placed = is })
      (shows_if (h.is_main || is_start_routine h) rule.Threads at))))

  called_show : (number : ℕ) (s : Scope) (at : ℕ) (d : Option ℕ) →
      Shows whole (s.function ≡ Some number) (λ callee. (callee ≡ d) × IfAny (IsFoundCall whole number) callee) (c.called s at d)
  unfolding c.called
  called_show number s at None = shows_pure None (λ _. (refl, tt))
  called_show number s at (Some callee) =
      shows_then (calls s.function callee at) (λ _. pure (Some callee)) (shows_call s.function number callee at)
      (λ _. shows_pure (Some callee) (λ b. (refl, b.1)))

  header_call_show : (number : ℕ) (s : Scope) (count : ℕ) (is_value : Bool) (at : ℕ) (h : Option Header) →
      Shows whole (s.function ≡ Some number) (IsCallOf whole number h count is_value) (c.header_call s count is_value at h)
  header_call_show number s count is_value at None =
      shows_then (finds rule.Unknown at) (λ _. pure None) (shows_broken {Is = λ _. ⊥} rule.Unknown at) (λ _. shows_pure None (λ b. absurd b.1))
  header_call_show number s count is_value at (Some h) =
      shows_then (c.header_rules h count is_value at) (λ _. c.called s at h.definition)
      (shows_as (c.header_rules h count is_value at) (λ _. tt) (λ _ _ is. is) (header_rules_show h count is_value at))
      (λ _. shows_as (c.called s at h.definition) (λ b. b.0) (λ callee b is. (is.0, b.1, is.1)) (called_show number s at h.definition))

  pub function_name_shows : (number : ℕ) (s : Scope) (header count : ℕ) (is_value : Bool) (at : ℕ) →
      Shows whole (s.function ≡ Some number) (IsCallOf whole number (slice_get s.headers header) count is_value) (c.function_name s header count is_value at)
  unfolding c.function_name
  function_name_shows number s header count is_value at = header_call_show number s count is_value at (slice_get s.headers header)

  -- ---- functions of the library

  library_place_shows : (number : ℕ) (s : Scope) (function : LibraryFunction) (at : ℕ) →
      Shows whole (s.function ≡ Some number) (λ _. IsPlaced whole number s function) (c.library_place s function at)
  unfolding c.library_place
  library_place_shows number s library.Create at = shows_pure tt (λ _. tt)
  library_place_shows number s library.Join at = shows_pure tt (λ _. tt)
  library_place_shows number s library.Exit at = shows_if (is_none s.function || not (gives_pointer s.gives)) rule.Threads at
  library_place_shows number s library.Print at = shows_pure tt (λ _. tt)
  library_place_shows number s library.MutexInit at = shows_pure tt (λ _. tt)
  library_place_shows number s library.MutexDestroy at = shows_pure tt (λ _. tt)
  library_place_shows number s library.MutexLock at = shows_pure tt (λ _. tt)
  library_place_shows number s library.MutexUnlock at = shows_pure tt (λ _. tt)
  library_place_shows number s library.BarrierInit at = shows_pure tt (λ _. tt)
  library_place_shows number s library.BarrierDestroy at = shows_pure tt (λ _. tt)
  library_place_shows number s library.BarrierWait at = shows_pure tt (λ _. tt)

  pub library_name_shows : (number : ℕ) (s : Scope) (function : LibraryFunction) (count at : ℕ) →
      Shows whole (s.function ≡ Some number) (λ _. (not (takes function count) ≡ false) × IsPlaced whole number s function) (c.library_name s function count at)
  unfolding c.library_name
  library_name_shows number s function count at =
      shows_then (finds_if (not (takes function count)) rule.Arguments at) (λ _. c.library_place s function at)
      (shows_if (not (takes function count)) rule.Arguments at)
      (λ _. shows_as (c.library_place s function at) (λ b. b.0) (λ _ b is. (b.1, is)) (library_place_shows number s function at))

  -- ---- a call of what is no function of the text: a fault that stays

  pub no_function_shows : (k : Known) (at : ℕ) → Shows whole (IsApart k) (λ _. ⊥) (c.no_function k at)
  unfolding c.no_function
  no_function_shows k at =
      shows_then (finds_if (c.is_unknown k) rule.Unknown at) (λ _. finds_if (c.is_usable k) rule.Kind at) (shows_if (c.is_unknown k) rule.Unknown at)
      (λ _. shows_as (finds_if (c.is_usable k) rule.Kind at) (λ b. b) (λ _ b usable. no_function_by k b.0 b.1 usable) (shows_if (c.is_usable k) rule.Kind at))

  library_value_shows : (number : ℕ) (s : Scope) (function : LibraryFunction) (count at : ℕ) →
      Shows whole (s.function ≡ Some number) (λ _. ⊥) (c.library_value s function count at)
  unfolding c.library_value
  library_value_shows number s function count at =
      shows_then (finds rule.Place at) (λ _. c.library_name s function count at) (shows_broken {Is = λ _. ⊥} rule.Place at)
      (λ _. shows_as (c.library_name s function count at) (λ b. b.0) (λ _ b _. b.1) (library_name_shows number s function count at))

  pub misplaced_shows : (number : ℕ) (s : Scope) (k : Known) (count at : ℕ) → Shows whole ((s.function ≡ Some number) × IsApart k) (λ _. ⊥) (c.misplaced s k count at)
  unfolding c.misplaced
  misplaced_shows number s (known.Library function) count at =
      shows_as (c.library_value s function count at) (λ b. b.0) (λ _ _ no. no) (library_value_shows number s function count at)
  misplaced_shows number s (known.Declared (meaning.Function header)) count at =
      shows_as (c.no_function (known.Declared (meaning.Function header)) at) (λ b. b.1) (λ _ _ no. no) (no_function_shows (known.Declared (meaning.Function header)) at)
  misplaced_shows number s (known.Declared meaning.Unusable) count at =
      shows_as (c.no_function (known.Declared meaning.Unusable) at) (λ b. b.1) (λ _ _ no. no) (no_function_shows (known.Declared meaning.Unusable) at)
  misplaced_shows number s (known.Declared (meaning.Variable v)) count at =
      shows_as (c.no_function (known.Declared (meaning.Variable v)) at) (λ b. b.1) (λ _ _ no. no) (no_function_shows (known.Declared (meaning.Variable v)) at)
  misplaced_shows number s (known.Declared meaning.Argument) count at =
      shows_as (c.no_function (known.Declared meaning.Argument) at) (λ b. b.1) (λ _ _ no. no) (no_function_shows (known.Declared meaning.Argument) at)
  misplaced_shows number s (known.Declared (meaning.Object o)) count at =
      shows_as (c.no_function (known.Declared (meaning.Object o)) at) (λ b. b.1) (λ _ _ no. no) (no_function_shows (known.Declared (meaning.Object o)) at)
  misplaced_shows number s known.Unknown count at =
      shows_as (c.no_function known.Unknown at) (λ b. b.1) (λ _ _ no. no) (no_function_shows known.Unknown at)
