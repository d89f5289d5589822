-- When a state is left that asks no bank.
use Rattle.std.proofs.Common.{◌≡◌, ◌≢◌, ℕ, zero, suc, ◌+◌, ◌-◌, ◌<◌, ◌≤◌, Bool, true, false, not, ◌&&◌, ◌||◌, nat_eq, length, slice_get, slice_index, Option, Some, None, refl, sym, ap}
use Rattle.std.proofs.Common.{subst, ◌∙◌, arith, ⊎_elim}
use Rattle.std.proofs.lemmas.Bool.{cases_lt, cases_eq, eq-eqb, ne_eqb}
use Rattle.std.proofs.Math.Bool.{or-false}
use Rattle.hls_ints.specs.Residues.{bit_of}
use Rattle.block_ir.specs.declared.code.ThreadCode.{ThreadCode}
use Rattle.block_ir.specs.declared.plan.Planned.{Planned}
use Rattle.planned_block.specs.Slot.{Slot}
use Rattle.planned_block.specs.Advance.{any_below}
use Rattle.netlist.specs.declared.netlist.Module.{Module}
use Rattle.verilog_meaning.specs.Readings.{Reading}
use Rattle.circuit.specs.Modules.{Obeys}
use Rattle.thread_promise.specs.Globals.{bank_total}
use Rattle.thread_promise.specs.Promise.{is_run}
use Rattle.thread_slots.specs.declared.shape.Shape.{Shape}
use Rattle.thread_slots.specs.Bits.{HaveBits}
use Rattle.thread_layout.specs.Control.{got, unmet, Steers}
use Rattle.thread_layout.specs.Modules.{IsModule}
use Rattle.thread_layout.specs.Thread.{cores_of, is_core, IsServed}
use Rattle.thread_layout.proofs.Opened.{raised_by, acts_by, all_count, marked_now, mark_bit, open_bits, bit_told}
use Rattle.thread_layout.proofs.OpenCores.{joined_front, joined_back}
use Rattle.thread_layout.proofs.Placed.{from_control, opens_count}
use Rattle.thread_layout.proofs.Quiet.{bank_bit, service_bit, asks_kind, target, raises}
use Rattle.thread_layout.proofs.Shown.{Shows}
use Rattle.thread_layout.proofs.Sight.{heard, steered}
use Rattle.thread_layout.proofs.Needed.{none_below}

-- tests of which only one may pass
pub only_one : (f : ℕ → Bool) (n c : ℕ) → c < n → ((k : ℕ) → k < n → k ≢ c → f k ≡ false) → any_below f n ≡ f c
only_one f zero c less none = absurd (omega arith)
only_one f (suc n) c less none =
    ⊎_elim
    (λ (same : n ≡ c).
    ap (λ t. t || f n) (none_below f n (λ k below. none k (omega arith) (λ is. absurd (omega arith)))) ∙ ap f same)
    (λ (ne : n ≢ c). ap (λ t. any_below f n || t) (none n (omega arith) ne) ∙ or-false (any_below f n) ∙ only_one f n c (omega arith) (λ k below. none k (omega arith)))
    (cases_eq n c)

grant_is : {n : ℕ} (c : ℕ) (g : Bool) → n ≡ bit_of g → nat_eq n 1 ≡ g
grant_is c true e = ap (λ k. nat_eq k 1) e
grant_is c false e = ap (λ k. nat_eq k 1) e

no_unmet : (raised enabled grants : Bool) → raised ≡ false → (raised && not ((raised && enabled) && grants)) ≡ false
no_unmet true enabled grants e = absurd cc
no_unmet false enabled grants e = refl

no_got : (raised enabled grants : Bool) → raised ≡ false → ((raised && enabled) && grants) ≡ false
no_got true enabled grants e = absurd cc
no_got false enabled grants e = refl

module _ (shape : Shape) (code : ThreadCode) (plan : Planned) (m : Module) (t : IsModule shape code plan m) (served : IsServed shape code plan) where
  abbrev banks : ℕ
  banks = bank_total shape.spreads

  -- the core that is asked, if one is: whether, and whether it grants
  abbrev pub IsTarget : Reading → Option ℕ → Bool → Bool → Type 0
  IsTarget r None a g = a ≡ false
  IsTarget r (Some c) a g = (a ≡ true) × (banks ≤ c) × (c < cores_of shape) × (r.signal (2 + c) ≡ bit_of g)

  module _ (r : Reading) (q : Slot) (o : Obeys m r) (shows : Shows shape code plan m t served r q) (not_so : is_run (slice_get code.stages q.stage) ≡ false)
      (w a e g : Bool) (chosen : Option ℕ) (is_chosen : target shape code plan m t served r q o shows ≡ chosen) (aims : IsTarget r chosen a g)
      (waits : r.signal t.inside.chains.waits ≡ bit_of w) (on : r.signal 1 ≡ bit_of e) where
    abbrev acts : ℕ → Bool
    acts = acts_by shape code plan m t served r (asks_kind shape code plan m t served r q o shows)

    abbrev raised : ℕ → Bool
    raised = raised_by shape code plan m t served (λ n. false) (marked_now shape code plan m t served r) acts

    abbrev grants : ℕ → Bool
    grants k = nat_eq (r.signal (2 + k)) 1

    opened : HaveBits m r t.inside.early.opens (length t.inside.early.opens) raised
    opened n less =
        open_bits shape code plan m t served r o (λ k. false) (marked_now shape code plan m t served r) (asks_kind shape code plan m t served r q o shows)
        (λ k below. bank_bit shape code plan m t served r q o shows not_so k below) (λ k below. mark_bit shape code plan m t served r k o below)
        (service_bit shape code plan m t served r q o shows) n
        (subst (λ k. n < k) (opens_count shape code plan m t served ∙ sym (all_count shape code plan m t served)) less)

    granted : (k : ℕ) → k < cores_of shape → r.signal (2 + k) ≡ bit_of (grants k)
    granted k less = let h = heard shape code plan m t served r o k less in bit_told (r.signal (2 + k)) h.0 h.1

    steers : Steers m r t.inside.inputs t.inside.chains t.inside.early.opens raised grants w e
    steers = steered shape code plan m t served r o raised grants w e opened granted waits on

    -- A CORE IS OPEN as it is the one that is asked
    raised_is : (n : ℕ) → n < cores_of shape → raised n ≡ is_core chosen n
    raised_is n less =
        ⊎_elim
        (λ (bank : n < banks).
        joined_front banks (λ k. false && not (marked_now shape code plan m t served r k)) acts n bank ∙ sym (no_bank chosen aims n bank))
        (λ (past : banks ≤ n).
        let at : banks + (n - banks) ≡ n = omega arith in
        joined_back banks (λ k. false && not (marked_now shape code plan m t served r k)) acts n past
        ∙ raises shape code plan m t served r q o shows (n - banks) (let all = all_count shape code plan m t served in omega arith)
        ∙ ap (is_core (target shape code plan m t served r q o shows)) at ∙ ap (λ c. is_core c n) is_chosen)
        (cases_lt n banks)
      where
        no_bank : (c : Option ℕ) → IsTarget r c a g → (k : ℕ) → k < banks → is_core c k ≡ false
        no_bank None is k bank = refl
        no_bank (Some c) is k bank = let behind = is.1 in ne_eqb k c (λ same. absurd (omega arith))

    missing_of : (c : Option ℕ) → IsTarget r c a g → ((n : ℕ) → n < cores_of shape → raised n ≡ is_core c n)
        → any_below (unmet raised grants e) (cores_of shape) ≡ (a && not ((a && e) && g))
    missing_of None is raised_so =
        none_below (unmet raised grants e) (cores_of shape) (λ k less. no_unmet (raised k) e (grants k) (raised_so k less)) ∙ ap (λ z. z && not ((z && e) && g)) (sym is)
    missing_of (Some c) is raised_so =
        let less = is.2 in
        only_one (unmet raised grants e) (cores_of shape) c less
        (λ k below ne. no_unmet (raised k) e (grants k) (raised_so k below ∙ ne_eqb k c ne))
        ∙ ap (λ z. z && not ((z && e) && grants c)) (raised_so c less ∙ eq-eqb c c refl ∙ sym is.0)
        ∙ ap (λ z. a && not ((a && e) && z)) (grant_is c g is.3)

    winning_of : (c : Option ℕ) → IsTarget r c a g → ((n : ℕ) → n < cores_of shape → raised n ≡ is_core c n)
        → any_below (got raised grants e) (cores_of shape) ≡ ((a && e) && g)
    winning_of None is raised_so =
        none_below (got raised grants e) (cores_of shape) (λ k less. no_got (raised k) e (grants k) (raised_so k less)) ∙ ap (λ z. (z && e) && g) (sym is)
    winning_of (Some c) is raised_so =
        let less = is.2 in
        only_one (got raised grants e) (cores_of shape) c less
        (λ k below ne. no_got (raised k) e (grants k) (raised_so k below ∙ ne_eqb k c ne))
        ∙ ap (λ z. (z && e) && grants c) (raised_so c less ∙ eq-eqb c c refl ∙ sym is.0)
        ∙ ap (λ z. (a && e) && z) (grant_is c g is.3)

    missing : any_below (unmet raised grants e) (length t.inside.early.opens) ≡ (a && not ((a && e) && g))
    missing = ap (any_below (unmet raised grants e)) (opens_count shape code plan m t served) ∙ missing_of chosen aims raised_is

    winning : any_below (got raised grants e) (length t.inside.early.opens) ≡ ((a && e) && g)
    winning = ap (any_below (got raised grants e)) (opens_count shape code plan m t served) ∙ winning_of chosen aims raised_is

    pub act_leave : r.signal t.edge.leave ≡ bit_of (e && not (w || (a && not ((a && e) && g))))
    act_leave =
        (t.closed.controls.leave m r raised grants w e (from_control shape code plan m t served) o steers).shows ∙ ap (λ z. bit_of (e && not (w || z))) missing

    pub act_moved : r.signal t.edge.moved ≡ bit_of ((e && not (w || (a && not ((a && e) && g)))) || ((a && e) && g))
    act_moved =
        (t.closed.controls.moved m r raised grants w e (from_control shape code plan m t served) o steers).shows
        ∙ ap (λ z. bit_of ((e && not (w || z)) || any_below (got raised grants e) (length t.inside.early.opens))) missing
        ∙ ap (λ z. bit_of ((e && not (w || (a && not ((a && e) && g)))) || z)) winning

    -- whether a core is asked
    pub core_asks : (n : ℕ) → n < cores_of shape → r.signal (slice_index t.edge.asks n) ≡ bit_of (is_core chosen n && e)
    core_asks n less =
        (t.closed.controls.asks m r raised e (from_control shape code plan m t served) o opened steers.has_enable n
        (subst (λ k. n < k) (sym (opens_count shape code plan m t served)) less)).shows
        ∙ ap (λ z. bit_of (z && e)) (raised_is n less)
