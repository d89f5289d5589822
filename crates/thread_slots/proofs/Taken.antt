-- Chains through the stages of acts: their links stand.
use Rattle.std.proofs.Common.{◌≡◌, ℕ, ◌+◌, ◌<◌, ◌≤◌, ◌^◌, List, length, Option, Some, None, sym, ap, subst, ◌∙◌, arith}
use Rattle.std.specs.Prelude.{slice_get}
use Rattle.std.proofs.lemmas.Option.{slice_get_within}
use Rattle.circuit.specs.Rows.{spread}
use Rattle.circuit.proofs.Growth.{length-spread, slice_get-spread}
use Rattle.block_ir.specs.declared.code.ThreadCode.{ThreadCode}
use Rattle.block_ir.specs.declared.plan.BlockPlan.{BlockPlan}
use Rattle.block_ir.specs.declared.plan.StagePlan.{StagePlan}
use Rattle.block_ir.specs.declared.plan.StagePlan.TheVariants as planned
use Rattle.netlist.specs.declared.netlist.Signal.{Signal}
use Rattle.operator_wires.specs.Built.{Base, IsEarlier, Adds}
use Rattle.block_datapath.specs.declared.registers.Held.{Held}
use Rattle.block_datapath.specs.declared.registers.Registers.{Registers}
use Rattle.thread_slots.specs.Wired.{field_width, AreSlots}

-- ---- no plan

pub none_planned : (listed : Option StagePlan) (p : BlockPlan) → listed ≡ None → listed ≡ Some (planned.Run p) → ⊥
none_planned listed p none some = let both : None ≡ Some (planned.Run p) = sym none ∙ some in absurd cc

-- ---- what is asked of wires

-- a bit of a stage, and the number of one
abbrev pub Told : List Signal → List Signal → Registers → ℕ → ℕ → Type 0
Told a b registers l at = (base : Base) → IsEarlier a base registers.stage.register registers.stage.width → l < 2 ^ registers.stage.width → Adds base a b 1 at

-- ---- stages of acts

pub stage_below : (base : Base) (a : List Signal) (code : ThreadCode) (registers : Registers) (l : ℕ) → AreSlots base a code registers → l ≤ length code.stages →
    l < 2 ^ registers.stage.width
stage_below base a code registers l slots le = let room = slots.room in omega arith

-- ---- requests

-- as many fields as registers of their widths
abbrev pub field_held : ℕ → ℕ → Held
field_held site_width k = record { register = 0; width = field_width site_width k }

abbrev pub fields_held : ℕ → ℕ → List Held
fields_held site_width n = spread (field_held site_width) 0 n

pub fields_count : (site_width n : ℕ) → length (fields_held site_width n) ≡ n
fields_count site_width n = length-spread (field_held site_width) 0 n

pub held_there : (site_width n k : ℕ) → k < n → slice_get (fields_held site_width n) k ≡ Some (field_held site_width k)
held_there site_width n k less = let e : 0 + k ≡ k = omega arith in slice_get-spread (field_held site_width) 0 n k less ∙ ap (λ z. Some (field_held site_width z)) e

pub held_is : (site_width n k : ℕ) (h : Held) → slice_get (fields_held site_width n) k ≡ Some h → h.width ≡ field_width site_width k
held_is site_width n k h e =
    let within : k < n = subst (λ z. k < z) (length-spread (field_held site_width) 0 n) (slice_get_within (fields_held site_width n) k h e) in
    let same : field_held site_width k ≡ h = (let there = held_there site_width n k within in cc) in
    ap (λ (z : Held). z.width) (sym same)
