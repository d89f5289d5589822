-- A net that is wired has an input `pref_k` for each core.
use Rattle.std.proofs.Common.{◌≡◌, ℕ, zero, suc, ◌+◌, ◌^◌, ◌<◌, ◌≤◌, Bool, true, false, ◌&&◌, if◌then◌else◌, List, [], ◌∷◌, ◌++◌, length, Some}
use Rattle.std.proofs.Common.{ap, ◌∙◌, arith, append_assoc}
use Rattle.std.specs.Prelude.{codes, decimal, take, drop, None}
use Rattle.std.proofs.Math.Seq.{take-append_seam, drop-append_seam}
use Rattle.std.proofs.lemmas.Slice.Eq.{bytes_eq-Decides}
use Rattle.netlist.specs.declared.netlist.Signal.{Signal}
use Rattle.netlist.specs.declared.netlist.Module.{Module}
use Rattle.verilog_meaning.specs.Names.{numbered}
use Rattle.verilog_meaning.proofs.Banks.{decimal_minimal}
use Rattle.global_banks.specs.Banks.{behind, is_decimal}
use Rattle.global_banks.proofs.Digits.{minimal_passes}
use Rattle.sim_layout.specs.Rounds.{is_input, is_number, is_pref, pref_count}
use Rattle.circuit.specs.Rows.{spread}
use Rattle.top_parts.specs.declared.layout.Layout.{Layout}
use Rattle.top_wiring.specs.Parts.{each_from}
use Rattle.top_wiring.specs.Ports.{cores}
use Rattle.top_wiring.specs.Top.{input, output, preference, all_wires, done_place, IsTop}
use Rattle.top_wiring.specs.Wires.{wire_signal}

-- ---- a number's name is one that is counted

decimal_is : (k : ℕ) → k < 2 ^ 64 → is_decimal (decimal k) ≡ true
decimal_is k l = minimal_passes (decimal k) (decimal_minimal k l)

behind_is : (stem rest : List ℕ) → behind stem (stem ++ rest) ≡ Some rest
behind_is stem rest =
    ap (λ (b : Bool). if b then Some (drop (length stem) (stem ++ rest)) else None) ((bytes_eq-Decides (take (length stem) (stem ++ rest)) stem).1 (take-append_seam stem rest))
    ∙ ap Some (drop-append_seam stem rest)

pub pref_is : (k : ℕ) → k < 2 ^ 64 → is_pref (numbered (codes "pref") k) ≡ true
pref_is k l = ap is_number (behind_is (codes "pref_") (decimal k)) ∙ decimal_is k l

-- ---- how many are counted

counted_by : (b : Bool) (n : ℕ) → n ≤ (if b then suc n else n)
counted_by true n = omega arith
counted_by false n = omega arith

-- a signal more counts no less
counted_behind : (s : Signal) (signals : List Signal) → pref_count signals ≤ pref_count (s ∷ signals)
counted_behind s signals = counted_by (is_input s.source && is_pref s.name) (pref_count signals)

counted_first : (k : ℕ) (signals : List Signal) → k < 2 ^ 64 → pref_count (preference k ∷ signals) ≡ suc (pref_count signals)
counted_first k signals l = ap (λ (b : Bool). if b then suc (pref_count signals) else pref_count signals) (pref_is k l)

counted : (i n : ℕ) (rest : List Signal) → i + n ≤ 2 ^ 64 → n ≤ pref_count (spread preference i n ++ rest)
counted i zero rest l = omega arith
counted i (suc n) rest l =
    let more = counted (i + 1) n rest (omega arith) in
    let first = counted_first i (spread preference (i + 1) n ++ rest) (omega arith) in
    omega (arith, more, first)

pub cores_counted : (layout : Layout) (modules : List Module) (top : Module) → IsTop modules layout top → cores layout ≤ 2 ^ 64 → cores layout ≤ pref_count top.signals
cores_counted layout modules top is l =
    let K = length layout.cores in
    let wires = each_from wire_signal (2 + K) (all_wires modules layout) in
    let last = output (done_place modules layout) ∷ [] in
    let chosen = spread preference 0 K ++ wires ++ last in
    let enable = input (codes "en") (length layout.threads) in
    let counts = counted 0 K (wires ++ last) (omega arith) in
    let moved : pref_count chosen ≡ pref_count (spread preference 0 K ++ (wires ++ last)) = ap pref_count (append_assoc (spread preference 0 K) wires last) in
    let behind_enable = counted_behind enable chosen in
    let behind_clock = counted_behind (input (codes "clk") 1) (enable ∷ chosen) in
    let same : pref_count top.signals ≡ pref_count (input (codes "clk") 1 ∷ enable ∷ chosen) = ap pref_count is.signals in
    omega (arith, counts, moved, behind_enable, behind_clock, same)
