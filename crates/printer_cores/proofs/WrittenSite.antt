-- The string of a site, with its values put in, is what the site writes.
use Rattle.std.proofs.Common.{◌≡◌, ◌≢◌, ℕ, zero, suc, ◌+◌, ◌<◌, ◌≤◌, List, [], ◌∷◌, ◌++◌, length, slice_get, Some, None, Bool, true, false, nat_eq, nat_lt, decimal}
use Rattle.std.proofs.Common.{if◌then◌else◌, refl, sym, ap, ◌∙◌, arith, append_assoc, add-zero}
use Rattle.std.specs.Prelude.{◌&&◌}
use Rattle.std.specs.Fmt.{signed_decimal}
use Rattle.std.proofs.lemmas.Bool.Decides.{nat_tests}
use Rattle.std.proofs.lemmas.List.{append-nil}
use Rattle.std.proofs.lemmas.Bool.{eqb-true}
use Rattle.hls_ints.specs.Words.{signed_word}
use Rattle.hls_ints.specs.Residues.{bit_of}
use Rattle.netlist.specs.declared.netlist.Action.{Action}
use Rattle.netlist.specs.declared.netlist.Module.{Module}
use Rattle.circuit.specs.Readings.{Reading, width, Plain, Escape, Percent, plain_bytes, filled, all_arguments, action_bytes}
use Rattle.printer_cores.specs.declared.format.Part.{Part}
use Rattle.printer_cores.specs.declared.format.Part.TheVariants.{Text, Unsigned, Signed}
use Rattle.printer_cores.specs.Format.{spelled_byte, spelled_bytes, spelled, values_of, arguments_of, IsSite}
use Rattle.printer_cores.specs.Printer.{write, writes_from}
use Rattle.printer_cores.specs.Machine.{site_bytes, bytes_of_site}
use Rattle.circuit.specs.Rows.{EachOf}

plain_step : (b : ℕ) (rest : List ℕ) (vs : List (List ℕ)) (slash percent : Bool) → slash ≡ false → percent ≡ false
    → plain_bytes b (if slash then Escape else (if percent then Percent else Plain)) ++ filled (if slash then Escape else (if percent then Percent else Plain)) rest vs ≡ b ∷ filled Plain rest vs
plain_step b rest vs true percent e f = absurd cc
plain_step b rest vs false true e f = absurd cc
plain_step b rest vs false false e f = refl

byte_filled : (b : ℕ) (rest : List ℕ) (vs : List (List ℕ)) (feed tab slash quote percent : Bool) → nat_eq b 10 ≡ feed → nat_eq b 9 ≡ tab → nat_eq b 92 ≡ slash → nat_eq b 34 ≡ quote
    → nat_eq b 37 ≡ percent
    → filled Plain ((if feed then 92 ∷ 110 ∷ [] else (if tab then 92 ∷ 116 ∷ [] else (if slash then 92 ∷ 92 ∷ [] else (if quote then 92 ∷ 34 ∷ [] else
    (if percent then 37 ∷ 37 ∷ [] else b ∷ []))))) ++ rest) vs ≡ b ∷ filled Plain rest vs
byte_filled b rest vs true tab slash quote percent e f g h i = ap (λ x. x ∷ filled Plain rest vs) (sym (eqb-true b 10 e))
byte_filled b rest vs false true slash quote percent e f g h i = ap (λ x. x ∷ filled Plain rest vs) (sym (eqb-true b 9 f))
byte_filled b rest vs false false true quote percent e f g h i = ap (λ x. x ∷ filled Plain rest vs) (sym (eqb-true b 92 g))
byte_filled b rest vs false false false true percent e f g h i = ap (λ x. x ∷ filled Plain rest vs) (sym (eqb-true b 34 h))
byte_filled b rest vs false false false false true e f g h i = ap (λ x. x ∷ filled Plain rest vs) (sym (eqb-true b 37 i))
byte_filled b rest vs false false false false false e f g h i = plain_step b rest vs (nat_eq b 92) (nat_eq b 37) g i

bytes_filled : (bytes rest : List ℕ) (vs : List (List ℕ)) → filled Plain (spelled_bytes bytes ++ rest) vs ≡ bytes ++ filled Plain rest vs
bytes_filled [] rest vs = refl
bytes_filled (b ∷ bytes) rest vs =
    ap (λ l. filled Plain l vs) (append_assoc (spelled_byte b) (spelled_bytes bytes) rest)
    ∙ byte_filled b (spelled_bytes bytes ++ rest) vs (nat_eq b 10) (nat_eq b 9) (nat_eq b 92) (nat_eq b 34) (nat_eq b 37) refl refl refl refl refl
    ∙ ap (λ l. b ∷ l) (bytes_filled bytes rest vs)

module _ (m : Module) (r : Reading) where
  -- the values stand one after another from a place on, each of 64 bits
  pub record Holds (place n : ℕ) (vs : List ℕ) : Type 0 where
    pub values : (j : ℕ) → j < n → slice_get vs j ≡ Some (r.signal (place + j))
    pub wide : (j : ℕ) → j < n → width m (place + j) ≡ 64

  next_holds : (place n v : ℕ) (vs : List ℕ) → Holds place (1 + n) (v ∷ vs) → Holds (place + 1) n vs
  next_holds place n v vs h = record {
    values = λ j l.
        let z : place + suc j ≡ place + 1 + j = omega arith in
        h.values (suc j) (omega arith) ∙ ap (λ x. Some (r.signal x)) z;
    wide = λ j l. let z : place + suc j ≡ place + 1 + j = omega arith in sym (ap (width m) z) ∙ h.wide (suc j) (omega arith);
  }

  first_held : (place n v : ℕ) (vs : List ℕ) → Holds place (1 + n) (v ∷ vs) → r.signal place ≡ v
  first_held place n v vs h =
      let e : Some v ≡ Some (r.signal (place + 0)) = h.values 0 (omega arith) in
      let s : v ≡ r.signal (place + 0) = cc in
      sym (s ∙ ap r.signal (add-zero place))

  first_wide : (place n v : ℕ) (vs : List ℕ) → Holds place (1 + n) (v ∷ vs) → width m place ≡ 64
  first_wide place n v vs h = sym (ap (width m) (add-zero place)) ∙ h.wide 0 (omega arith)

  none_held : {X : Type 0} (place n : ℕ) → Holds place (1 + n) [] → X
  none_held place n h = let e : None ≡ Some (r.signal (place + 0)) = h.values 0 (omega arith) in absurd cc

  -- the bytes that the string and the values of a site make
  pub site_filled : (parts : List Part) (place : ℕ) (vs : List ℕ) → Holds place (values_of parts) vs
      → filled Plain (spelled parts) (all_arguments m r (arguments_of place parts)) ≡ site_bytes parts vs
  site_filled [] place vs h = refl
  site_filled (Text bytes ∷ parts) place vs h =
      bytes_filled bytes (spelled parts) (all_arguments m r (arguments_of place parts)) ∙ ap (λ l. bytes ++ l) (site_filled parts place vs h)
  site_filled (Unsigned ∷ parts) place [] h = none_held place (values_of parts) h
  site_filled (Unsigned ∷ parts) place (v ∷ vs) h =
      ap (λ x. decimal x ++ filled Plain (spelled parts) (all_arguments m r (arguments_of (place + 1) parts))) (first_held place (values_of parts) v vs h)
      ∙ ap (λ l. decimal v ++ l) (site_filled parts (place + 1) vs (next_holds place (values_of parts) v vs h))
  site_filled (Signed ∷ parts) place [] h = none_held place (values_of parts) h
  site_filled (Signed ∷ parts) place (v ∷ vs) h =
      ap (λ w. signed_decimal (signed_word w (r.signal place)) ++ filled Plain (spelled parts) (all_arguments m r (arguments_of (place + 1) parts))) (first_wide place (values_of parts) v vs h)
      ∙ ap (λ x. signed_decimal (signed_word 64 x) ++ filled Plain (spelled parts) (all_arguments m r (arguments_of (place + 1) parts))) (first_held place (values_of parts) v vs h)
      ∙ ap (λ l. signed_decimal (signed_word 64 v) ++ l) (site_filled parts (place + 1) vs (next_holds place (values_of parts) v vs h))

  -- ---- one $write for each site

  module _ (hits first c : ℕ) (vs : List ℕ) (holds : Holds first c vs) where
    missed : (k : ℕ) (parts : List Part) (rest : List Action) → r.signal (hits + k) ≡ 0 → action_bytes m r (write (hits + k) first parts ∷ rest) ≡ action_bytes m r rest
    missed k parts rest e = ap (λ x. (if nat_lt 0 x && true then filled Plain (spelled parts) (all_arguments m r (arguments_of first parts)) else []) ++ action_bytes m r rest) e

    hit : (k : ℕ) (parts : List Part) (rest : List Action) → r.signal (hits + k) ≡ 1
        → action_bytes m r (write (hits + k) first parts ∷ rest) ≡ filled Plain (spelled parts) (all_arguments m r (arguments_of first parts)) ++ action_bytes m r rest
    hit k parts rest e = ap (λ x. (if nat_lt 0 x && true then filled Plain (spelled parts) (all_arguments m r (arguments_of first parts)) else []) ++ action_bytes m r rest) e

    holds_some : (parts : List Part) → values_of parts ≤ c → Holds first (values_of parts) vs
    holds_some parts l = record { values = λ j b. holds.values j (omega arith); wide = λ j b. holds.wide j (omega arith) }

    pub all_missed : (sites : List (List Part)) (k : ℕ) → ((j : ℕ) → j < length sites → r.signal (hits + (k + j)) ≡ 0) → action_bytes m r (writes_from hits first k sites) ≡ []
    all_missed [] k h = refl
    all_missed (parts ∷ sites) k h =
        let z : hits + k ≡ hits + (k + 0) = omega arith in
        missed k parts (writes_from hits first (k + 1) sites) (ap r.signal z ∙ h 0 (omega arith))
        ∙ all_missed sites (k + 1) (λ j l. let y : hits + (k + 1 + j) ≡ hits + (k + suc j) = omega arith in ap r.signal y ∙ h (suc j) (omega arith))

    pub one_hit : (sites : List (List Part)) → EachOf (IsSite c) sites → (k d t : ℕ) → t ≡ k + d → ((j : ℕ) → j < length sites
        → r.signal (hits + (k + j)) ≡ bit_of (nat_eq t (k + j))) → action_bytes m r (writes_from hits first k sites) ≡ bytes_of_site (slice_get sites d) vs
    one_hit [] e k d t q h = refl
    one_hit (parts ∷ sites) e k zero t q h =
        let z : hits + k ≡ hits + (k + 0) = omega arith in
        let y : nat_eq t (k + 0) ≡ true = grind (arith, nat_tests) in
        hit k parts (writes_from hits first (k + 1) sites) (ap r.signal z ∙ h 0 (omega arith) ∙ ap bit_of y)
        ∙ ap (λ l. filled Plain (spelled parts) (all_arguments m r (arguments_of first parts)) ++ l)
        (all_missed sites (k + 1) (λ j l.
        let y : hits + (k + 1 + j) ≡ hits + (k + suc j) = omega arith in
        let f : nat_eq t (k + suc j) ≡ false = let ne : t ≢ k + suc j = omega arith in grind (arith, nat_tests) in
        ap r.signal y ∙ h (suc j) (omega arith) ∙ ap bit_of f))
        ∙ append-nil (filled Plain (spelled parts) (all_arguments m r (arguments_of first parts)))
        ∙ site_filled parts first vs (holds_some parts e.0.1)
    one_hit (parts ∷ sites) e k (suc d) t q h =
        let z : hits + k ≡ hits + (k + 0) = omega arith in
        let f : nat_eq t (k + 0) ≡ false = let ne : t ≢ k + 0 = omega arith in grind (arith, nat_tests) in
        missed k parts (writes_from hits first (k + 1) sites) (ap r.signal z ∙ h 0 (omega arith) ∙ ap bit_of f)
        ∙ one_hit sites e.1 (k + 1) d t (omega arith) (λ j l.
        let y : hits + (k + 1 + j) ≡ hits + (k + suc j) = omega arith in
        let x : k + suc j ≡ k + 1 + j = omega arith in
        ap r.signal y ∙ h (suc j) (omega arith) ∙ ap (λ b. bit_of (nat_eq t b)) x)
