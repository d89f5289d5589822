-- When a scope within a function of a program is in order: each name stands for a declaration of the program that is as the
-- name says, and each header for a function that is as the header says.
use Rattle.std.specs.Prelude.{◌≡◌, ℕ, ◌<◌, ◌≤◌, ◌+◌, Bool, true, false, max, List, [], ◌∷◌, ◌++◌, length, take, Option, Some, None, slice_get, unwrap_or, Contains, ⊤}
use Rattle.std.specs.List.{AllByRecursion}
use Rattle.hls_ints.specs.Types.{long_int}
use Rattle.c_program.specs.declared.tree.Storage.TheVariants.{Automatic}
use Rattle.c_program.specs.declared.tree.ReturnType.{ReturnType}
use Rattle.c_program.specs.declared.tree.ReturnType.TheVariants as returns_as
use Rattle.c_program.specs.declared.tree.LocalVariable.{LocalVariable}
use Rattle.c_program.specs.declared.tree.ThreadObject.{ThreadObject}
use Rattle.c_program.specs.Tree.{Statement, Function, Program}
use Rattle.c_program.specs.Calls.{calls_of}
use Rattle.c_program.specs.Weight.{statement_weight}
use Rattle.c_program.specs.Resolved.{IsObject, IsSlot, Around, IsCondition, IsStatement, creates_of, thread_length, mutex_length, barrier_length}
use Rattle.c_rules.specs.declared.findings.Findings.{Findings}
use Rattle.c_rules.specs.declared.findings.CallSite.{CallSite}
use Rattle.c_rules.specs.declared.findings.Creation.{Creation}
use Rattle.c_rules.specs.declared.dimensions.Dimensions.{Dimensions}
use Rattle.c_rules.specs.declared.dimensions.Dimensions.TheVariants.{Scalar, One, Two, Three}
use Rattle.c_rules.specs.declared.names.ObjectKind.{ObjectKind}
use Rattle.c_rules.specs.declared.names.ObjectKind.TheVariants.{Thread, Mutex, Barrier}
use Rattle.c_rules.specs.declared.names.Meaning.{Meaning}
use Rattle.c_rules.specs.declared.names.Meaning.TheVariants as meaning
use Rattle.c_rules.specs.declared.names.Header.{Header}
use Rattle.c_rules.specs.declared.names.Gives.{Gives}
use Rattle.c_rules.specs.declared.names.Gives.TheVariants as gives
use Rattle.c_rules.specs.declared.names.Scope.{Scope}
use Rattle.c_rules.specs.Dimensions.{elements}
use Rattle.c_rules.specs.Names.{Names}
use Rattle.c_rules.specs.Specifiers.{c_type}
use Rattle.c_rules.specs.Walks.{Outcome}
use Rattle.c_resolution.specs.States.{State}
use Rattle.c_resolution.specs.Slots.{slots_end}
use Rattle.c_resolution.specs.Functions.{gives_of, is_unlisted, return_type}

-- ---- names

-- the number of elements of the thread object, mutex or barrier of that number
abbrev pub object_length : Program → ObjectKind → ℕ → Option ℕ
object_length P Thread number = thread_length (slice_get P.threads number)
object_length P Mutex number = mutex_length (slice_get P.mutexes number)
object_length P Barrier number = barrier_length (slice_get P.barriers number)

-- what a name stands for is declared so in the program or the function
-- a length is a positive number of 64 bits
abbrev pub IsLength : ℕ → Type 0
IsLength n = (0 < n) × (n ≤ 0xffff_ffff_ffff_ffff)

abbrev pub AreLengths : Dimensions → Type 0
AreLengths Scalar = ⊤
AreLengths (One a) = IsLength a
AreLengths (Two a b) = IsLength a × IsLength b
AreLengths (Three a b c) = IsLength a × IsLength b × IsLength c

abbrev pub IsMeant : Program → Function → Meaning → Type 0
IsMeant P f (meaning.Variable v) = IsObject P f v.storage v.number (elements v.dimensions) (c_type v.ty) × AreLengths v.dimensions
IsMeant P f meaning.Argument = IsObject P f Automatic 0 1 long_int
IsMeant P f (meaning.Object o) = object_length P o.kind o.number ≡ Some (unwrap_or o.length 1)
IsMeant P f (meaning.Function number) = ⊤
IsMeant P f meaning.Unusable = ⊥

abbrev pub AreMeant : Program → Function → Names → Type 0
AreMeant P f names = AllByRecursion (λ (d : List ℕ × Meaning). IsMeant P f d.1) names

-- ---- functions

-- the function of that number is as the header says
pub record IsDefinition (P : Program) (h : Header) (number : ℕ) : Type 0 where
  pub code : Function
  pub found : slice_get P.functions number ≡ Some code
  pub returns : code.returns ≡ return_type h
  pub parameters : code.parameters ≡ length h.parameters
  pub main : number ≡ P.main → h.is_main ≡ true

-- its type is one of the profile, and its definition, if it has one, is as it says
pub record IsHeader (P : Program) (h : Header) : Type 0 where
  pub listed : is_unlisted (gives_of h) ≡ false
  pub definition : (number : ℕ) → h.definition ≡ Some number → IsDefinition P h number

-- what a function gives back, as its returns see it and as the program has it
abbrev pub IsGiven : Gives → ReturnType → Type 0
IsGiven gives.Nothing returns = returns ≡ returns_as.Void
IsGiven gives.Integer (returns_as.Integer ty) = ⊤
IsGiven gives.Integer returns = ⊥
IsGiven gives.Pointer returns = returns ≡ returns_as.Pointer
IsGiven gives.Unlisted returns = ⊥

-- a function that returns a pointer has that number
abbrev pub IsPointerAt : Program → ℕ → Type 0
IsPointerAt P number = (code : Function) × (slice_get P.functions number ≡ Some code) × (code.returns ≡ returns_as.Pointer)

-- ---- scopes

-- the locals that the function declares, parameters among them
abbrev pub declared_in : Function → List LocalVariable
declared_in f = take f.declared_locals f.locals

-- from the local of that number on, the function's locals keep values
pub record KeepsFrom (f : Function) (from : ℕ) : Type 0 where
  pub first : from ≡ f.declared_locals
  pub slots : (k : ℕ) → f.declared_locals ≤ k → k < length f.locals → IsSlot f k

-- a scope in the function f of that number of the program P
pub record IsOrderly (P : Program) (number : ℕ) (f : Function) (s : Scope) : Type 0 where
  pub inner : AreMeant P f s.inner
  pub outer : AllByRecursion (AreMeant P f) s.outer
  pub headers : AllByRecursion (IsHeader P) s.headers
  pub function : s.function ≡ Some number
  pub gives : IsGiven s.gives f.returns
  pub kept : KeepsFrom f s.kept_from

-- ---- what is found

-- what is found so far is a part of what is found in the whole text, and no rule is broken
pub record IsPartOf (whole found : Findings) : Type 0 where
  pub no_fault : found.fault ≡ None
  pub calls : (c : CallSite) → Contains found.calls c → Contains whole.calls c
  pub creations : (c : Creation) → Contains found.creations c → Contains whole.creations c

-- the calls, and the routines of creates, of the function of that number are found
abbrev pub IsFoundCall : Findings → ℕ → ℕ → Type 0
IsFoundCall whole caller callee = (at : ℕ) × Contains whole.calls (record { caller = caller; callee = callee; offset = at })

abbrev pub AreFound : Findings → ℕ → List ℕ → Type 0
AreFound whole caller callees = (callee : ℕ) → Contains callees callee → IsFoundCall whole caller callee

abbrev pub IsFoundCreation : Findings → ℕ → ℕ → Type 0
IsFoundCreation whole thread routine = (at : ℕ) × Contains whole.creations (record { thread = thread; routine = routine; offset = at })

-- ---- what a part leaves and gives

abbrev pub left : {S A : Type 0} → Outcome S A → S
left (Outcome.Gives a s) = s

abbrev pub given : {S A : Type 0} → Outcome S A → A
given (Outcome.Gives a s) = a

-- the list begins with these elements
abbrev pub IsFront : {A : Type 0} → List A → List A → Type 0
IsFront {A} front list = (more : List A) × (front ++ more ≡ list)

-- within a function: what is known is a part of what is found in the whole text, and of the locals that the function declares
pub record IsAhead (whole : Findings) (f : Function) (x : State) : Type 0 where
  pub found : IsPartOf whole x.found
  pub locals : IsFront x.scope.locals (declared_in f)

-- the scope is in order, and what stands round it is a loop, a switch or neither
pub record Holds (P : Program) (number : ℕ) (f : Function) (a : Around) (x : State) : Type 0 where
  pub orderly : IsOrderly P number f x.scope
  pub exits : a.leaves ≡ false → x.scope.exits ≡ 0
  pub loops : a.turns ≡ false → x.scope.loops ≡ 0
  pub lengths : AllByRecursion (λ (l : LocalVariable). 0 < l.length) x.scope.locals

-- ---- statements

-- the number behind the last local in which one of some statements keeps a value
abbrev pub list_end : List Statement → ℕ
list_end [] = 0
list_end (x ∷ more) = max (slots_end x) (list_end more)

-- the function has the locals in which a statement keeps values
abbrev pub HasSlots : Function → Statement → Type 0
HasSlots f x = slots_end x ≤ length f.locals

-- what stands round a statement that is no label: whether break and continue may stand there
abbrev pub around : Bool → Bool → Around
around leaves turns = record { labels = None; leaves = leaves; turns = turns }

-- a statement of the function of that number: in order within what stands round it, with each call and create found, and with no
-- more values kept at a time than it weighs, and three
pub record IsInOrder (whole : Findings) (P : Program) (number : ℕ) (f : Function) (a : Around) (x : Statement) : Type 0 where
  pub is : HasSlots f x → IsStatement P f a x
  pub few : slots_end x ≤ f.declared_locals + (statement_weight x + 3)
  pub calls : AreFound whole number (calls_of x)
  pub creates : (thread routine : ℕ) → Contains (creates_of x) (thread, routine) → IsPointerAt P routine × IsFoundCreation whole thread routine

-- the same of a condition, in which no create stands, and which keeps values in the locals from n on
pub record IsAsked (whole : Findings) (P : Program) (number : ℕ) (f : Function) (n : ℕ) (x : Statement) : Type 0 where
  pub is : HasSlots f x → IsCondition P f x
  pub few : slots_end x ≤ n + (statement_weight x + 1)
  pub calls : AreFound whole number (calls_of x)

-- a create that is found has given its routine to its thread object
abbrev pub GivesRoutines : Findings → Program → Type 0
GivesRoutines whole P =
    (thread routine : ℕ) (object : ThreadObject) → IsFoundCreation whole thread routine → slice_get P.threads thread ≡ Some object → object.routine ≡ Some routine
