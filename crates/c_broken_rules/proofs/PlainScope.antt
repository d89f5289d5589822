-- Faults in constants and formats ask nothing of the declarations in sight.
use Rattle.std.proofs.Common.{refl, ℕ, suc, [], ◌∷◌}
use Rattle.c_tree.specs.declared.expression.Name.{Name}
use Rattle.c_tree.specs.declared.declaration.TranslationUnit.{TranslationUnit}
use Rattle.c_rules.specs.declared.fault.Rule.TheVariants as rule
use Rattle.c_rules.specs.declared.names.Scope.{Scope}
use Rattle.c_rules.specs.Findings.{nothing}
use Rattle.c_rules.specs.Names.{look_up}
use Rattle.c_rules.specs.Walks.{Finds, finds_any}
use Rattle.c_expressions.specs.Expressions as e
use Rattle.c_resolution.specs.Functions as y
use Rattle.c_resolution.specs.Resolving.{before}
use Rattle.c_resolution.specs.Resolving as resolving
use Rattle.c_resolution.specs.Texts as t
use Rattle.c_broken_rules.specs.Sight.{Declared, Where}
use Rattle.c_broken_rules.specs.Parts.{Part, parts, function_names, at_first}
use Rattle.c_broken_rules.proofs.Ledgers.{Ledger, Good, Writes, quiet, writes_with}
use Rattle.c_broken_rules.proofs.Events.{Events}
use Rattle.c_broken_rules.proofs.Walks.{Scoping, IsOpen, open_behind}
use Rattle.c_broken_rules.proofs.Calls.{no_creates}
use Rattle.c_broken_rules.proofs.Functions.{text_is}
use Rattle.c_broken_rules.proofs.Plain as d
use Rattle.c_broken_rules.proofs.Plain.{plain_ledger}
use Rattle.c_broken_rules.proofs.Quiets as q
use Rattle.c_broken_rules.proofs.Quiets.{IsQuiet}

abbrev L : Ledger
L = plain_ledger

unknown : IsQuiet L rule.Unknown
unknown = d.other rule.Unknown (λ j. j)

threads : IsQuiet L rule.Threads
threads = d.other rule.Threads (λ j. j)

twice : IsQuiet L rule.Twice
twice = d.other rule.Twice (λ j. j)

value_read : (s : Scope) (w : Where) (name : Name) (indices : ℕ) → Good L (finds_any (e.misuse (look_up s name.bytes) indices) name.offset) []
value_read s w name indices = q.misuse_quiet L d.others (look_up s name.bytes) indices name.offset (λ _. unknown) (λ _ _. threads)

use_read : (w : Where) (name : Name) {A : Type 0} {v : Finds A} → Good L v [] → Good L v (Part.Use w name ∷ Part.Read w name ∷ [])
use_read w name h = quiet L (Part.Use w name) (λ x k. k) (quiet L (Part.Read w name) (λ x k. k) h)

events : (s : Scope) (w : Where) → Events L s w
events s w = record {
  other = d.others;
  constant = d.constant_is;
  used = λ name more. quiet L (Part.Use w name) (λ x k. k) (value_read s w name (suc more));
  read = λ name. use_read w name (value_read s w name 0);
  converted = λ name h. quiet L (Part.Use w name) (λ x k. k) (value_read s w name 0);
  argument = λ name h x k. k;
  target = λ name indices. quiet L (Part.Use w name) (λ x k. k) (q.target_quiet L d.others (look_up s name.bytes) indices name.offset (λ _. unknown));
  object = λ kind name at indices number. quiet L (Part.Use w name) (λ x k. k)
      (q.object_named L d.others kind (look_up s name.bytes) name.offset at indices number (λ _. unknown));
  routine = λ name h at is. quiet L (Part.Routine w name) (λ x k. k) (use_read w name (q.routine_quiet L d.others unknown h name.offset at));
  no_routine = λ name is x k. k;
  misplaced = λ name count none. quiet L (Part.Call w name) (λ x k. k) (q.misplaced_quiet L d.others unknown threads s (look_up s name.bytes) count name.offset);
  library = λ name function count is. quiet L (Part.Call w name) (λ x k. k) (q.library_quiet L d.others unknown threads s function count name.offset);
  function = λ name number count is_value is. quiet L (Part.Call w name) (λ x k. k)
      (q.function_quiet L d.others unknown threads d.calls_quiet s number count is_value name.offset);
  no_function = λ name none own. quiet L (Part.Call w name) (λ x k. k) (q.no_function_quiet L d.others unknown threads (look_up s name.bytes) name.offset);
  print = d.print_is;
  no_print = d.no_print_is;
  length = λ v. d.length_by_is v _ refl;
  local = λ words at is. quiet L (Part.Local words at) (λ x k. k) (q.local_quiet L d.others threads words at);
  no_local = λ words at ty is x k. k;
  initial = λ ty v. d.initial_by_is ty v _ refl;
  listed = d.listed_is;
}

-- ---- declarations

abbrev Free : Scope → Where → Type 0
Free s w = IsOpen w

scoping_free : Scoping L
scoping_free = record {
  Agrees = Free;
  Means = λ w name d m. Unit {0};
  events = λ s w h. events s w;
  creates = λ s w h. no_creates L s w (events s w) d.creation_quiet (λ thread name x k. k);
  opened = λ s w h. record { scope = []; outer = w.scopes; are = refl };
  is_open = λ s w h. h;
  closed = λ s scope w opening h. opening;
  no_names = λ s w h. open_behind [] w;
  loops = λ s w n m h. h;
  local = λ s w l h. h;
  declares = λ x w name o m h means. record {
    writes = writes_with L (Part.Declares w name o) (λ x k. k) (q.declare_is L d.others twice name m x).writes;
    agrees = open_behind ((name.bytes, o) ∷ []) w;
    value = tt;
  };
  variable = λ w words d m h ty. tt;
  parameter = λ w name p m h ty. tt;
  IsSwitched = λ w over ty. Unit {0};
  switched = λ s w over at cuts found h. tt;
  case = λ s w over ty before l e c h is noted some. d.case_is w over before l ty e c some;
  default = λ s w over ty before l c h is noted none.
      quiet L (Part.Label w over before l) (λ x k. d.no_case l.value none x k) (q.default_quiet L twice l.offset c);
  Held = λ t w names. Unit {0};
  object = λ t w words pointer d dimensions later small h. tt;
  held_object = λ t u w words pointer d later added h. tt;
  held_function = λ t u w f later same h. tt;
  held_none = λ t w later h. tt;
  At = λ w n list. Unit {0};
  next = λ w n d more h. tt;
  IsHeader = λ f h. Unit {0};
  header = λ s w f h. tt;
  gives = λ s w n rest g here h. h;
  declares_function = λ x w n f h rest here agrees is. record {
    writes = writes_with L (Part.Declares w f.name (Declared.OfFunction f)) (λ x k. k) (q.function_is L d.others twice h f.name (y.is_second f h n) x).writes;
    agrees = open_behind (function_names f) w;
    value = tt;
  };
  entered = λ s w v n from f h rest here e is g opening. record { scope = opening.scope; outer = opening.outer; are = opening.are };
  left_body = λ s w v n f rest here e opening. record { scope = opening.scope; outer = opening.outer; are = opening.are };
  no_locals = λ s w h. h;
}

-- ---- a whole text

pub text_writes : (tree : TranslationUnit) → Writes L nothing (resolving.behind tree.declarations).found (parts tree)
unfolding resolving.behind t.declarations scoping_free
text_writes tree = text_is L scoping_free tree.declarations tt at_first 0 tt (before tree.declarations) tt (record { scope = []; outer = []; are = refl }) refl
