-- The facts of a module after some of its items, each a list that the items grow.
use Rattle.std.proofs.Common.{◌≡◌, List, [], ◌∷◌, ◌++◌, Bool, Option, Some, None, refl, sym, ap, ◌∙◌, map}
use Rattle.std.specs.Prelude.{◌||◌}
use Rattle.std.specs.List.{flat_map, list_any}
use mathlib.Core.Bool.{or-false, or_assoc}
use Rattle.verilog_tree.specs.declared.kind.Kind.{Kind}
use Rattle.verilog_tree.specs.declared.tree.Port.{Port}
use Rattle.verilog_tree.specs.declared.tree.InitialConstant.{InitialConstant}
use Rattle.verilog_tree.specs.declared.tree.Statement.{Statement}
use Rattle.verilog_tree.specs.declared.tree.Item.{Item}
use Rattle.verilog_tree.specs.declared.tree.Module.{Module}
use Rattle.verilog_tree.specs.Scope.{Name, Names, Scope, declaration, port_declaration}
use Rattle.verilog_tree.specs.Facts.{after, Place, with_name, with_place, place_of, with_declaration, after_declaration}
use Rattle.verilog_tree.specs.Facts.{after_module_name, after_statement, after_constant, after_port, after_item, after_module, Facts}
use Rattle.verilog_tree.specs.Facts.{drives, written_by, body_of, constants_of, item_prints, module_of, head_facts, port_facts}
use Rattle.netlist.specs.NetlistOf.{some}

pub after-append : {S A : Type 0} (step : S → A → S) (s : S) (xs ys : List A) → after step s (xs ++ ys) ≡ after step (after step s xs) ys
after-append step s [] ys = refl
after-append step s (x ∷ xs) ys = after-append step (step s x) xs ys

after_some : (s : Scope) (o : Option (Name × Kind)) → after_declaration s o ≡ after with_declaration s (some o)
after_some s None = refl
after_some s (Some d) = refl

after_name : (s : Names) (o : Option Name) → after_module_name s o ≡ after with_name s (some o)
after_name s None = refl
after_name s (Some x) = refl

after_statements : (s : Names) (xs : List Statement) → after after_statement s xs ≡ after with_name s (flat_map written_by xs)
after_statements s [] = refl
after_statements s (x ∷ xs) = after_statements (after_statement s x) xs ∙ sym (after-append with_name s (written_by x) (flat_map written_by xs))

after_constants : (s : List Place) (cs : List InitialConstant) → after after_constant s cs ≡ after with_place s (map place_of cs)
after_constants s [] = refl
after_constants s (c ∷ cs) = after_constants (after_constant s c) cs

-- ---- after items

pub items_modules : (f : Facts) (xs : List Item) → (after after_item f xs).modules ≡ f.modules
items_modules f [] = refl
items_modules f (x ∷ xs) = items_modules (after_item f x) xs

pub items_scope : (f : Facts) (xs : List Item) → (after after_item f xs).scope ≡ after with_declaration f.scope (flat_map (λ (x : Item). some (declaration x)) xs)
items_scope f [] = refl
items_scope f (x ∷ xs) =
    items_scope (after_item f x) xs
    ∙ ap (λ s. after with_declaration s (flat_map (λ (y : Item). some (declaration y)) xs)) (after_some f.scope (declaration x))
    ∙ sym (after-append with_declaration f.scope (some (declaration x)) (flat_map (λ (y : Item). some (declaration y)) xs))

pub items_driven : (f : Facts) (xs : List Item) → (after after_item f xs).driven ≡ after with_name f.driven (flat_map (drives f.modules) xs)
items_driven f [] = refl
items_driven f (x ∷ xs) = items_driven (after_item f x) xs ∙ sym (after-append with_name f.driven (drives f.modules x) (flat_map (drives f.modules) xs))

abbrev pub item_writes : Item → Names
item_writes x = flat_map written_by (body_of x)

pub items_written : (f : Facts) (xs : List Item) → (after after_item f xs).written ≡ after with_name f.written (flat_map item_writes xs)
items_written f [] = refl
items_written f (x ∷ xs) =
    items_written (after_item f x) xs ∙ ap (λ s. after with_name s (flat_map item_writes xs)) (after_statements f.written (body_of x))
    ∙ sym (after-append with_name f.written (item_writes x) (flat_map item_writes xs))

abbrev pub item_places : Item → List Place
item_places x = map place_of (constants_of x)

pub items_given : (f : Facts) (xs : List Item) → (after after_item f xs).given ≡ after with_place f.given (flat_map item_places xs)
items_given f [] = refl
items_given f (x ∷ xs) =
    items_given (after_item f x) xs ∙ ap (λ s. after with_place s (flat_map item_places xs)) (after_constants f.given (constants_of x))
    ∙ sym (after-append with_place f.given (item_places x) (flat_map item_places xs))

pub items_printed : (f : Facts) (xs : List Item) → (after after_item f xs).printed ≡ (f.printed || list_any item_prints xs)
items_printed f [] = sym (or-false f.printed)
items_printed f (x ∷ xs) = items_printed (after_item f x) xs ∙ or_assoc f.printed (item_prints x) (list_any item_prints xs)

abbrev pub item_modules : Item → Names
item_modules x = some (module_of x)

pub items_placed : (f : Facts) (xs : List Item) → (after after_item f xs).placed ≡ after with_name f.placed (flat_map item_modules xs)
items_placed f [] = refl
items_placed f (x ∷ xs) =
    items_placed (after_item f x) xs ∙ ap (λ s. after with_name s (flat_map item_modules xs)) (after_name f.placed (module_of x))
    ∙ sym (after-append with_name f.placed (item_modules x) (flat_map item_modules xs))

-- ---- after ports

pub ports_are : (f : Facts) (ps : List Port) → after after_port f ps ≡ record f { scope = after with_declaration f.scope (map port_declaration ps) }
ports_are f [] = refl
ports_are f (p ∷ ps) = ports_are (after_port f p) ps

pub port_facts_are : (f : Facts) (m : Module) → port_facts f m ≡ record (head_facts f) { scope = after with_declaration [] (map port_declaration m.ports) }
port_facts_are f m = ports_are (head_facts f) m.ports

-- ---- after modules

abbrev pub module_writes : Module → Bool
module_writes m = list_any item_prints m.items

abbrev pub module_places : Module → Names
module_places m = flat_map item_modules m.items

pub module_printed : (f : Facts) (m : Module) → (after_module f m).printed ≡ (f.printed || module_writes m)
module_printed f m = items_printed (port_facts f m) m.items ∙ ap (λ (g : Facts). g.printed || module_writes m) (port_facts_are f m)

pub module_placed : (f : Facts) (m : Module) → (after_module f m).placed ≡ after with_name f.placed (module_places m)
module_placed f m = items_placed (port_facts f m) m.items ∙ ap (λ (g : Facts). after with_name g.placed (module_places m)) (port_facts_are f m)

pub modules_printed : (f : Facts) (ms : List Module) → (after after_module f ms).printed ≡ (f.printed || list_any module_writes ms)
modules_printed f [] = sym (or-false f.printed)
modules_printed f (m ∷ ms) = modules_printed (after_module f m) ms ∙ ap (λ b. b || list_any module_writes ms) (module_printed f m) ∙ or_assoc f.printed (module_writes m) (list_any module_writes ms)

pub modules_placed : (f : Facts) (ms : List Module) → (after after_module f ms).placed ≡ after with_name f.placed (flat_map module_places ms)
modules_placed f [] = refl
modules_placed f (m ∷ ms) =
    modules_placed (after_module f m) ms ∙ ap (λ s. after with_name s (flat_map module_places ms)) (module_placed f m)
    ∙ sym (after-append with_name f.placed (module_places m) (flat_map module_places ms))
