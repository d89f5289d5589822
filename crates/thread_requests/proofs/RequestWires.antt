-- Registers, links and wires that stand among signals.
use Rattle.std.proofs.Common.{◌≡◌, ℕ, ◌+◌, ◌-◌, ◌<◌, ◌^◌, Bool, true, false, List, [], ◌∷◌, length, Some, sym, ap, subst, ◌∙◌, arith, length-append}
use Rattle.netlist.specs.declared.netlist.Source.{Source}
use Rattle.netlist.specs.declared.netlist.Signal.{Signal}
use Rattle.thread_slots.specs.Names.{place_of}
use Rattle.operator_wires.specs.declared.wires.Role.{Role}
use Rattle.operator_wires.specs.declared.wires.Role.TheVariants.{Need, Done}
use Rattle.operator_wires.specs.Gives.{Grows}
use Rattle.operator_wires.specs.Built.{is_single, name_at, Lays}
use Rattle.thread_slots.specs.Wired.{Behind, IsNamedOutput}
use Rattle.thread_slots.proofs.SlotWires.{name_tells, name_differs, behind_laid, behind_then, laid_grows}

-- ---- signals behind others

pub laid_long : (a b : List Signal) (role : Role) (w place : ℕ) (out : Bool) (d : Source) → Lays a b role w out d place → length b ≡ length a + 1
laid_long a b role w place out d t = ap length t.is ∙ length-append a (t.signal ∷ [])

-- ---- outputs

pub output_behind : (n : ℕ) (a b : List Signal) (role : Role) (w place : ℕ) (d : Source) → Lays a b role w true d place
    → (length a < 2 ^ 64 → (inputs : ℕ) → place_of n inputs (name_at role (length a)) ≡ Some (length a)) → Behind (IsNamedOutput n) a b
output_behind n a b role w place d t tells =
    behind_laid (IsNamedOutput n) a b role w place true d t
    (record {
      unlike = λ small j few e. name_differs role (length a) j (sym t.named ∙ e);
      named = λ inputs small. ap (place_of n inputs) t.named ∙ tells small inputs;
      flag = t.flag;
    })

pub output_numbered : (n : ℕ) (a b : List Signal) (role : Role) (w place : ℕ) (d : Source) → Lays a b role w true d place → is_single role ≡ false → Behind (IsNamedOutput n) a b
output_numbered n a b role w place d t many = output_behind n a b role w place d t (λ small inputs. name_tells role n inputs (length a) many small)

pub done_tells : (x inputs : ℕ) → place_of (x + 1) inputs (name_at Done x) ≡ Some x
done_tells x inputs = let e : x + 1 - 1 ≡ x = omega arith in ap Some e

pub need_tells : (x n inputs : ℕ) → n ≡ x + 2 → place_of n inputs (name_at Need x) ≡ Some x
need_tells x n inputs e = let f : n - 2 ≡ x = omega arith in ap Some f

-- a request, then whether a core is needed, and last whether main has ended
pub outputs_named : (a b c e : List Signal) (w place : ℕ) (d : Source) → Lays b c Need w true d place → length e ≡ length c + 1 → Grows c e
    → Behind (IsNamedOutput (length e)) a b → Behind (IsNamedOutput (length c + 1)) c e → Behind (IsNamedOutput (length e)) a e
outputs_named a b c e w place d t long g request done =
    let c_long = laid_long b c Need w place true d t in
    behind_then (IsNamedOutput (length e)) a c e g
    (behind_then (IsNamedOutput (length e)) a b c (laid_grows b c Need w place true d t) request
    (output_behind (length e) b c Need w place d t (λ small inputs. need_tells (length b) (length e) inputs (omega arith))))
    (subst (λ n. Behind (IsNamedOutput n) c e) (sym long) done)
