-- Lines of a head begin with `$` and have no line feed inside.
use Rattle.std.proofs.Common.{◌≡◌, refl, sym, ap, ◌∙◌, ℕ, ◌<◌, ◌^◌, Bool, true, false, List, [], ◌∷◌, ◌++◌, arith}
use Rattle.std.specs.Prelude.{◌==◌, decimal, codes}
use Rattle.std.proofs.lemmas.Bool.{false_from_ne_true, and_parts}
use Rattle.std.proofs.lemmas.Fmt.{decimal_is_IsNumeral}
use Rattle.netlist.specs.declared.netlist.Signal.{Signal}
use Rattle.verilog_tree.specs.Spelling.{is_name, is_name_byte, is_letter, all_pass}
use Rattle.vcd_text.specs.Dump.{id_of}
use Rattle.vcd_text.specs.Recover.{IsHeadLine}
use Rattle.vcd_text.proofs.Bytes.{Plain, is_line, plain_append, plain_id, plain_digits}
use Rattle.net_registers.specs.Heads.{scope_line, register_line, end_line}

-- a byte that passes a test which a line feed does not pass
no_feed : (p : ℕ → Bool) (b : ℕ) → p 10 ≡ false → p b ≡ true → (b == 10) ≡ false
no_feed p b fails passes = false_from_ne_true (b == 10) (λ e. let same : b ≡ 10 = grind (arith, e) in let bad = sym passes ∙ ap p same ∙ fails in cc)

plain_pass : (p : ℕ → Bool) (bytes : List ℕ) → p 10 ≡ false → all_pass p bytes ≡ true → Plain bytes
plain_pass p [] fails e = tt
plain_pass p (b ∷ bytes) fails e = let parts = and_parts (p b) (all_pass p bytes) e in (no_feed p b fails parts.0, plain_pass p bytes fails parts.1)

plain_name : (name : List ℕ) → is_name name ≡ true → Plain name
plain_name [] e = cc
plain_name (b ∷ name) e =
    let first = and_parts (is_letter b) _ e in
    let rest = and_parts (all_pass is_name_byte name) _ first.1 in
    (no_feed is_letter b refl first.0, plain_pass is_name_byte name refl rest.0)

head_line : (bytes : List ℕ) → Plain bytes → IsHeadLine (36 ∷ bytes)
head_line bytes plain = record { rest = bytes; is = refl; one = is_line bytes plain }

pub scope_is : (name : List ℕ) → is_name name ≡ true → IsHeadLine (scope_line name)
scope_is name e =
    head_line (codes "scope module " ++ name ++ codes " $end")
    (plain_append (codes "scope module " ++ name) (codes " $end")
    (plain_append (codes "scope module ") name (refl, (refl, (refl, (refl, (refl, (refl, (refl, (refl, (refl, (refl, (refl, (refl, (refl, tt))))))))))))) (plain_name name e))
    (refl, (refl, (refl, (refl, (refl, tt))))))

pub end_is : IsHeadLine end_line
end_is = head_line (codes "upscope $end") (refl, (refl, (refl, (refl, (refl, (refl, (refl, (refl, (refl, (refl, (refl, (refl, tt))))))))))))

pub definitions_is : IsHeadLine (codes "$enddefinitions $end")
definitions_is = head_line (codes "enddefinitions $end")
    (refl, (refl, (refl, (refl, (refl, (refl, (refl, (refl, (refl, (refl, (refl, (refl, (refl, (refl, (refl, (refl, (refl, (refl, (refl, tt)))))))))))))))))))

pub timescale_is : IsHeadLine (codes "$timescale 1 ns $end")
timescale_is = head_line (codes "timescale 1 ns $end")
    (refl, (refl, (refl, (refl, (refl, (refl, (refl, (refl, (refl, (refl, (refl, (refl, (refl, (refl, (refl, (refl, (refl, (refl, (refl, tt)))))))))))))))))))

pub register_line_is : (number : ℕ) (s : Signal) → is_name s.name ≡ true → s.width < 2 ^ 64 → IsHeadLine (register_line number s)
register_line_is number s e wide =
    let width = plain_digits 10 (decimal s.width) (omega arith) (decimal_is_IsNumeral s.width wide).0.1 in
    head_line (codes "var reg " ++ decimal s.width ++ 32 ∷ id_of number ++ 32 ∷ s.name ++ codes " $end")
    (plain_append (codes "var reg " ++ decimal s.width ++ 32 ∷ id_of number ++ 32 ∷ s.name) (codes " $end")
    (plain_append (codes "var reg " ++ decimal s.width ++ 32 ∷ id_of number) (32 ∷ s.name)
    (plain_append (codes "var reg " ++ decimal s.width) (32 ∷ id_of number)
    (plain_append (codes "var reg ") (decimal s.width) (refl, (refl, (refl, (refl, (refl, (refl, (refl, (refl, tt)))))))) width)
    (refl, plain_id 10 number)) (refl, plain_name s.name e))
    (refl, (refl, (refl, (refl, (refl, tt))))))
