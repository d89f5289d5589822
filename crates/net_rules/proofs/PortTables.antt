-- Look-ups in tables of ports and of modules.
use Rattle.std.proofs.Common.{◌≡◌, ℕ, List, [], ◌∷◌, ◌++◌, map, Option, Some, None, Bool, true, false, refl, sym, ap, ◌∙◌}
use Rattle.std.specs.Prelude.{cond, is_some, if◌then◌else◌}
use Rattle.std.specs.Option.{option_copied}
use Rattle.std.specs.Str.{bytes_eq}
use Rattle.std.specs.Map.{lookup}
use Rattle.std.proofs.lemmas.Slice.Eq.{bytes_eq-Decides}
use denote.Bor.{Bor}
use Rattle.verilog_tree.specs.declared.tree.Port.{Port}
use Rattle.verilog_tree.specs.Scope.{Name}
use Rattle.verilog_tree.specs.Rules.{port_named}
use Rattle.verilog_tree.specs.Facts.{interface_named}
use Rattle.net_rules.specs.declared.interfaces.Interface.{Interface as Seen}
use Rattle.net_rules.specs.Tables.{plain_port, named, is_named, with_port, with_ports, table_of}
use Rattle.net_rules.specs.Interfaces.{seen, seen_as, seen_at}

pub some_copied : {A : Type 0} (o : Option (Bor A)) → is_some (option_copied o) ≡ is_some o
some_copied None = refl
some_copied (Some x) = refl

copied_cond : (b : Bool) (p : Bor Port) (r : Option (Bor Port)) → option_copied (cond b (Some p) r) ≡ cond b (Some p.now) (option_copied r)
copied_cond true p r = refl
copied_cond false p r = refl

pub lookup-ports : (name : List ℕ) (es : List (Bor (List ℕ) × Bor Port)) → option_copied (lookup (λ k. bytes_eq name k.now) es) ≡ named (map plain_port es) name
lookup-ports name [] = refl
lookup-ports name (e ∷ es) =
    copied_cond (bytes_eq name e.0.now) e.1 (lookup (λ k. bytes_eq name k.now) es) ∙ ap (λ rest. cond (bytes_eq name e.0.now) (Some e.1.now) rest) (lookup-ports name es)

-- ---- the first port of a name

abbrev or_else : Option Port → Option Port → Option Port
or_else None o = o
or_else (Some x) o = Some x

or_none : (o : Option Port) → or_else o None ≡ o
or_none None = refl
or_none (Some x) = refl

or_cond : (b : Bool) (p : Port) (r s : Option Port) → cond b (Some p) (or_else r s) ≡ or_else (cond b (Some p) r) s
or_cond true p r s = refl
or_cond false p r s = refl

or_known : (o r : Option Port) → is_some o ≡ true → o ≡ or_else o r
or_known None r h = cc
or_known (Some x) r h = refl

or_more : (o : Option Port) (b : Bool) (p : Port) (r : Option Port) → or_else (or_else o (cond b (Some p) None)) r ≡ or_else o (cond b (Some p) r)
or_more (Some x) b p r = refl
or_more None true p r = refl
or_more None false p r = refl

named-pushed : (ds : List (Name × Port)) (d : Name × Port) (name : Name) → named (ds ++ d ∷ []) name ≡ or_else (named ds name) (cond (bytes_eq name d.0) (Some d.1) None)
named-pushed [] d name = refl
named-pushed (e ∷ es) d name =
    ap (λ rest. cond (bytes_eq name e.0) (Some e.1) rest) (named-pushed es d name) ∙ or_cond (bytes_eq name e.0) e.1 (named es name) (cond (bytes_eq name d.0) (Some d.1) None)

old_port : (ds : List (Name × Port)) (p : Port) (name : Name) (b : Bool) → bytes_eq name p.name ≡ b → is_named ds p.name ≡ true
    → named ds name ≡ or_else (named ds name) (cond b (Some p) None)
old_port ds p name true e h =
    let there : is_some (named ds name) ≡ true = ap (λ n. is_some (named ds n)) ((bytes_eq-Decides name p.name).0 e) ∙ h in
    or_known (named ds name) (Some p) there
old_port ds p name false e h = sym (or_none (named ds name))

with_port_at : (ds : List (Name × Port)) (p : Port) (name : Name) (b : Bool) → is_named ds p.name ≡ b
    → named (if b then ds else ds ++ (p.name, p) ∷ []) name ≡ or_else (named ds name) (cond (bytes_eq name p.name) (Some p) None)
with_port_at ds p name true h = old_port ds p name (bytes_eq name p.name) refl h
with_port_at ds p name false h = named-pushed ds (p.name, p) name

with-ports : (ps : List Port) (ds : List (Name × Port)) (name : Name) → named (with_ports ds ps) name ≡ or_else (named ds name) (port_named ps name)
with-ports [] ds name = sym (or_none (named ds name))
with-ports (p ∷ ps) ds name =
    with-ports ps (with_port ds p) name ∙ ap (λ o. or_else o (port_named ps name)) (with_port_at ds p name (is_named ds p.name) refl)
    ∙ or_more (named ds name) (bytes_eq name p.name) p (port_named ps name)

pub table-named : (ps : List Port) (name : Name) → named (table_of ps) name ≡ port_named ps name
table-named ps name = with-ports ps [] name

-- ---- modules

seen_cond : (name : Name) (b : Bool) (e : Bor (List ℕ) × Seen) (r : Option Seen) → bytes_eq name e.0.now ≡ b
    → seen_as name (cond b (Some e.1) r) ≡ cond b (Some (seen_at e)) (seen_as name r)
seen_cond name true e r h = ap (λ n. Some (seen n e.1)) ((bytes_eq-Decides name e.0.now).0 h)
seen_cond name false e r h = refl

pub lookup-seen : (name : Name) (es : List (Bor (List ℕ) × Seen)) → seen_as name (lookup (λ k. bytes_eq name k.now) es) ≡ interface_named (map seen_at es) name
lookup-seen name [] = refl
lookup-seen name (e ∷ es) =
    seen_cond name (bytes_eq name e.0.now) e (lookup (λ k. bytes_eq name k.now) es) refl ∙ ap (λ rest. cond (bytes_eq name e.0.now) (Some (seen_at e)) rest) (lookup-seen name es)

pub seen_none : (name : Name) (o : Option Seen) → seen_as name o ≡ None → o ≡ None
seen_none name None h = refl
seen_none name (Some x) h = cc
