-- Parts found at the places of their names.
use Rattle.std.proofs.Common.{◌≡◌, refl, ap, ◌∙◌, ℕ, zero, suc, ◌+◌, cond, Bool, true, false, List, [], ◌∷◌, map, Option, Some, None, arith}
use Rattle.std.specs.Prelude.{not, option_map, slice_get, if◌then◌else◌}
use Rattle.std.specs.Option.{option_copied}
use Rattle.std.specs.Str.{bytes_eq}
use denote.Bor.{Bor}
use Rattle.verilog_tree.specs.declared.tree.Assign.{Assign}
use Rattle.verilog_tree.specs.declared.tree.Connection.{Connection}
use Rattle.verilog_tree.specs.declared.tree.Expression.{Expression}
use Rattle.netlist.specs.declared.netlist.Source.{Source}
use Rattle.netlist.specs.declared.netlist.Source.TheVariants as source
use Rattle.netlist.specs.NetlistOf.{Name, place, assigned, connected}
use Rattle.net_names.specs.Found.{first_of, behind, targets_of, ports_of}
use Rattle.net_names.specs.Ties.{Tied, tied_names, tied_source}

one_by : {A : Type 0} (b : Bool) (a : A) (list : List A) (n : ℕ) (later : Option A) → slice_get list n ≡ later →
    slice_get (a ∷ list) (cond (not b) (1 + n) 0) ≡ (if b then Some a else later)
one_by true a list n later next = refl
one_by false a list n later next = let same : 1 + n ≡ suc n = omega arith in ap (slice_get (a ∷ list)) same ∙ next

-- the first of a name stands at the place of the name
pub found : {A : Type 0} (name : A → Name) (list : List A) (x : Name) → slice_get list (place (map name list) x) ≡ first_of name list x
found name [] x = refl
found name (a ∷ list) x = one_by (bytes_eq x (name a)) a list (place (map name list) x) (first_of name list x) (found name list x)

pub copied_get : {A : Type 0} (list : List (Bor A)) (k : ℕ) → option_copied (slice_get list k) ≡ slice_get (behind list) k
copied_get [] k = refl
copied_get (a ∷ list) zero = refl
copied_get (a ∷ list) (suc k) = copied_get list k

value_by : (b : Bool) (a : Assign) (o : Option Assign) (rest : Option Expression) → option_map (λ (z : Assign). z.value) o ≡ rest →
    option_map (λ (z : Assign). z.value) (if b then Some a else o) ≡ (if b then Some a.value else rest)
value_by true a o rest e = refl
value_by false a o rest e = e

first_assigned : (list : List Assign) (x : Name) → option_map (λ (z : Assign). z.value) (first_of (λ (a : Assign). a.target) list x) ≡ assigned list x
first_assigned [] x = refl
first_assigned (a ∷ list) x = value_by (bytes_eq x a.target) a (first_of (λ (z : Assign). z.target) list x) (assigned list x) (first_assigned list x)

pub assigned_at : (list : List Assign) (x : Name) → option_map (λ (z : Assign). z.value) (slice_get list (place (targets_of list) x)) ≡ assigned list x
assigned_at list x = ap (option_map (λ (z : Assign). z.value)) (found (λ (a : Assign). a.target) list x) ∙ first_assigned list x

-- ---- connections

abbrev pub signal_at : Option Connection → Name
signal_at None = []
signal_at (Some c) = c.signal

signal_by : (b : Bool) (c : Connection) (o : Option Connection) (rest : Name) → signal_at o ≡ rest → signal_at (if b then Some c else o) ≡ (if b then c.signal else rest)
signal_by true c o rest e = refl
signal_by false c o rest e = e

first_connected : (list : List Connection) (x : Name) → signal_at (first_of (λ (c : Connection). c.port) list x) ≡ connected list x
first_connected [] x = refl
first_connected (c ∷ list) x = signal_by (bytes_eq x c.port) c (first_of (λ (z : Connection). z.port) list x) (connected list x) (first_connected list x)

pub connected_at : (list : List Connection) (x : Name) → signal_at (slice_get list (place (ports_of list) x)) ≡ connected list x
connected_at list x = ap signal_at (found (λ (c : Connection). c.port) list x) ∙ first_connected list x

-- ---- ties

abbrev pub source_at : Option Tied → Source
source_at None = source.Input
source_at (Some t) = source.Port t.instance t.port

source_by : (b : Bool) (t : Tied) (o : Option Tied) (rest : Source) → source_at o ≡ rest → source_at (if b then Some t else o) ≡ (if b then source.Port t.instance t.port else rest)
source_by true t o rest e = refl
source_by false t o rest e = e

first_tied : (list : List Tied) (x : Name) → source_at (first_of (λ (t : Tied). t.name) list x) ≡ tied_source list x
first_tied [] x = refl
first_tied (t ∷ list) x = source_by (bytes_eq x t.name) t (first_of (λ (z : Tied). z.name) list x) (tied_source list x) (first_tied list x)

pub tied_at : (list : List Tied) (x : Name) → source_at (slice_get list (place (tied_names list) x)) ≡ tied_source list x
tied_at list x = ap source_at (found (λ (t : Tied). t.name) list x) ∙ first_tied list x
