-- The string of a site has as many values as its parts.
use Rattle.std.proofs.Common.{◌≡◌, ℕ, ◌+◌, ◌<◌, List, [], ◌∷◌, ◌++◌, length, Option, Some, None, Bool, true, false, nat_eq, if◌then◌else◌}
use Rattle.std.proofs.Common.{refl, sym, ap, ◌∙◌, arith, append_assoc, zero-add}
use Rattle.std.specs.Prelude.{option_map, ◌==◌}
use Rattle.std.proofs.lemmas.Bool.{eq-eqb}
use Rattle.verilog_tree.specs.Rules.{Between, Value, Percent, Backslash, next_plain, count_at, values_in, has_values}
use Rattle.netlist.specs.Laid.{argument_place}
use Rattle.circuit.specs.Rows.{EachOf}
use Rattle.printer_cores.specs.declared.format.Part.{Part}
use Rattle.printer_cores.specs.declared.format.Part.TheVariants.{Text, Unsigned, Signed}
use Rattle.printer_cores.specs.Format.{spelled_byte, spelled_bytes, spelled, values_of, arguments_of}

no_more : (o : Option ℕ) → option_map (λ n. 0 + n) o ≡ o
no_more None = refl
no_more (Some n) = ap Some (zero-add n)

twice : (o : Option ℕ) → option_map (λ n. 0 + n) (option_map (λ n. 0 + n) o) ≡ o
twice o = no_more (option_map (λ n. 0 + n) o) ∙ no_more o

plain_step : (b : ℕ) (rest : List ℕ) (percent slash : Bool) → nat_eq b 37 ≡ percent → nat_eq b 92 ≡ slash → percent ≡ false → slash ≡ false → values_in Between (b ∷ rest) ≡ values_in Between rest
plain_step b rest percent slash e f g h =
    let state : next_plain b ≡ Between = ap (λ z. if z then Percent else (if b == 92 then Backslash else Between)) (e ∙ g) ∙ ap (λ z. if z then Backslash else Between) (f ∙ h) in
    ap (λ z. option_map (λ n. count_at z + n) (values_in z rest)) state ∙ no_more (values_in Between rest)

byte_none : (b : ℕ) (rest : List ℕ) (feed tab slash quote percent : Bool) → nat_eq b 92 ≡ slash → nat_eq b 37 ≡ percent
    → values_in Between ((if feed then 92 ∷ 110 ∷ [] else (if tab then 92 ∷ 116 ∷ [] else (if slash then 92 ∷ 92 ∷ [] else (if quote then 92 ∷ 34 ∷ [] else
    (if percent then 37 ∷ 37 ∷ [] else b ∷ []))))) ++ rest) ≡ values_in Between rest
byte_none b rest true tab slash quote percent e f = twice (values_in Between rest)
byte_none b rest false true slash quote percent e f = twice (values_in Between rest)
byte_none b rest false false true quote percent e f = twice (values_in Between rest)
byte_none b rest false false false true percent e f = twice (values_in Between rest)
byte_none b rest false false false false true e f = twice (values_in Between rest)
byte_none b rest false false false false false e f = plain_step b rest (nat_eq b 37) (nat_eq b 92) refl refl f e

bytes_none : (bytes rest : List ℕ) → values_in Between (spelled_bytes bytes ++ rest) ≡ values_in Between rest
bytes_none [] rest = refl
bytes_none (b ∷ bytes) rest =
    ap (values_in Between) (append_assoc (spelled_byte b) (spelled_bytes bytes) rest)
    ∙ byte_none b (spelled_bytes bytes ++ rest) (nat_eq b 10) (nat_eq b 9) (nat_eq b 92) (nat_eq b 34) (nat_eq b 37) refl refl
    ∙ bytes_none bytes rest

-- behind a value a string goes on as between
behind_value : (rest : List ℕ) → values_in Value rest ≡ values_in Between rest
behind_value [] = refl
behind_value (b ∷ rest) = refl

one_value : (rest : List ℕ) (k : ℕ) → values_in Between rest ≡ Some k → values_in Between (37 ∷ 48 ∷ 100 ∷ rest) ≡ Some (1 + k)
one_value rest k e =
    twice (option_map (λ n. 1 + n) (values_in Value rest)) ∙ ap (option_map (λ n. 1 + n)) (behind_value rest ∙ e)

pub site_values : (parts : List Part) → values_in Between (spelled parts) ≡ Some (values_of parts)
site_values [] = refl
site_values (Text bytes ∷ parts) = bytes_none bytes (spelled parts) ∙ site_values parts
site_values (Unsigned ∷ parts) = one_value (spelled parts) (values_of parts) (site_values parts)
site_values (Signed ∷ parts) = one_value (spelled parts) (values_of parts) (site_values parts)

length-arguments : (place : ℕ) (parts : List Part) → length (arguments_of place parts) ≡ values_of parts
length-arguments place [] = refl
length-arguments place (Text bytes ∷ parts) = length-arguments place parts
length-arguments place (Unsigned ∷ parts) = let e = length-arguments (place + 1) parts in omega arith
length-arguments place (Signed ∷ parts) = let e = length-arguments (place + 1) parts in omega arith

pub has_site_values : (place : ℕ) (parts : List Part) → has_values (values_in Between (spelled parts)) (length (arguments_of place parts)) ≡ true
has_site_values place parts =
    ap (λ o. has_values o (length (arguments_of place parts))) (site_values parts)
    ∙ eq-eqb (values_of parts) (length (arguments_of place parts)) (sym (length-arguments place parts))

pub arguments_behind : (place : ℕ) → 0 < place → (parts : List Part) → EachOf (λ a. 0 < argument_place a) (arguments_of place parts)
arguments_behind place l [] = tt
arguments_behind place l (Text bytes ∷ parts) = arguments_behind place l parts
arguments_behind place l (Unsigned ∷ parts) = (l, arguments_behind (place + 1) (omega arith) parts)
arguments_behind place l (Signed ∷ parts) = (l, arguments_behind (place + 1) (omega arith) parts)
