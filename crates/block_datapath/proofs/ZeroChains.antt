-- Nothing is asked of banks: chains that begin with zeros.
use Rattle.std.proofs.Common.{◌≡◌, ◌≢◌, ℕ, ◌+◌, ◌<◌, ◌≤◌, List, [], ◌∷◌, ◌++◌, length, replicate}
use Rattle.std.proofs.Common.{slice_get, slice_index, Some, refl, sym, ap, subst, ◌∙◌, arith, ⊎_elim, length-append}
use Rattle.std.proofs.lemmas.Nat.{pow_pos}
use Rattle.std.proofs.lemmas.List.{get_or_push, get_or_append_left, length-replicate}
use Rattle.std.proofs.lemmas.Bool.{cases_eq}
use Rattle.lists.proofs.Places.{get_last, copies_are, get_earlier}
use Rattle.netlist.specs.declared.netlist.Signal.{Signal}
use Rattle.operator_wires.specs.Gives.{Gives}
use Rattle.operator_wires.specs.Built.{Base, IsEarlier, AreWires}
use Rattle.operator_wires.specs.Added.{ConstantAdds}
use Rattle.operator_wires.proofs.PutSignals.{grows_refl, grows_then}
use Rattle.operator_wires.proofs.BuiltWires.{stands_after, wires_none, wires_then, longer}
use Rattle.block_datapath.specs.declared.registers.Held.{Held}
use Rattle.block_datapath.specs.declared.requests.BankRequests.{BankRequests}
use Rattle.block_datapath.specs.Chains.{next_number}
use Rattle.block_datapath.specs.Requests.{ShowsZeros, AsksNothing, HaveWidths, AreZeroChains, AreEmptyChains, asked_at, nothing_asked}
use Rattle.block_datapath.proofs.LinkWires.{chains_after}
use Rattle.block_datapath.proofs.BankRequests.{same_asked}

-- ---- zeros

pub zeros_none : (a : List Signal) (places : List ℕ) → places ≡ [] → ShowsZeros a a 0 places
zeros_none a places e = record { grows = grows_refl a; count = ap length e; shows = λ m r x g o less. absurd (omega arith) }

pub zeros_more : (a b c : List Signal) (n w place : ℕ) (places after : List ℕ) → ShowsZeros a b n places → Gives b c place w (λ m r. 0) → after ≡ places ++ place ∷ [] →
    ShowsZeros a c (n + 1) after
zeros_more a b c n w place places after t u same = record {
  grows = grows_then a b c t.grows u.grows;
  count = ap length same ∙ length-append places (place ∷ []) ∙ ap (λ k. k + 1) t.count;
  shows = λ m r x g o less.
      ap (λ l. next_number r l x) same
      ∙ ⊎_elim
      (λ (e : x ≡ n).
      ap (λ k. r.signal (slice_index (places ++ place ∷ []) k)) (e ∙ sym t.count) ∙ ap r.signal (get_or_push places place 0 (length places) refl) ∙ u.shows m r g o)
      (λ (ne : x ≢ n).
      let inside : x < n = omega arith in
      ap r.signal (get_or_append_left places (place ∷ []) 0 x (subst (λ k. x < k) (sym t.count) inside)) ∙ t.shows m r x (grows_then b c m.signals u.grows g) o inside)
      (cases_eq x n);
}

-- the chains of the first ones
pub record AreZerosSoFar (base : Base) (old new : List Signal) (registers : List Held) (places : List ℕ) : Type 0 where
  pub wires : AreWires base old new
  pub each : (x y : ℕ) (h : Held) → slice_get registers x ≡ Some h → slice_get places x ≡ Some y → IsEarlier new base y h.width

abbrev pub AreFirstZeros : List Signal → List Signal → List ℕ → List ℕ → Type 0
AreFirstZeros old new widths places =
    (base : Base) (registers : List Held) → base.first ≤ length old → ((x w : ℕ) → slice_get widths x ≡ Some w → (1 ≤ w) × (w ≤ 64)) → HaveWidths registers widths →
    AreZerosSoFar base old new registers places

pub first_none : (a : List Signal) (widths places : List ℕ) → places ≡ [] → AreFirstZeros a a widths places
first_none a widths places e base registers low fit have =
    record { wires = wires_none base a; each = λ x y h f g. absurd (let none = ap (λ (l : List ℕ). slice_get l x) e in cc) }

pub first_more : (a b c : List Signal) (widths places after : List ℕ) (w place : ℕ) → AreFirstZeros a b widths places → slice_get widths (length places) ≡ Some w →
    ConstantAdds b c w 0 place →
    after ≡ places ++ place ∷ [] → AreFirstZeros a c widths after
first_more a b c widths places after w place t listed u same base registers low fit have =
    let before = t base registers low fit have in
    let more = longer a b before.wires.grows in
    let own = fit (length places) w listed in
    let last = u base (omega arith) own.0 own.1 (pow_pos w) in
    record {
      wires = wires_then base a b c before.wires last.wires;
      each = λ x y h e f.
          let there : slice_get (places ++ place ∷ []) x ≡ Some y = ap (λ (l : List ℕ). slice_get l x) (sym same) ∙ f in
          ⊎_elim
          (λ (here : x ≡ length places).
          let one : place ≡ y = (let p = get_last places place in let q = ap (slice_get (places ++ place ∷ [])) here in cc) in
          let two : h.width ≡ w = have.each (length places) w h (ap (slice_get registers) (sym here) ∙ e) listed in
          subst (λ z. IsEarlier c base z h.width) one (subst (λ z. IsEarlier c base place z) (sym two) last.stands))
          (λ (ne : x ≢ length places). stands_after b c base y h.width last.wires.grows (before.each x y h e (get_earlier places place x y ne there)))
          (cases_eq x (length places));
    }

pub first_all : (a b : List Signal) (widths places : List ℕ) → length places ≡ length widths → AreFirstZeros a b widths places → AreZeroChains a b widths places
first_all a b widths places count t base registers low fit have =
    let all = t base registers low fit have in
    record { wires = all.wires; chains = record { count = count ∙ sym have.count; each = λ x y h e f. all.each x y h e f } }

-- ---- four chains

pub begun_asks : (a b c d e : List Signal) (words bits wide : List ℕ) (chains : BankRequests) → bits ≡ replicate (length words) 1 → wide ≡ replicate (length words) 64 →
    ShowsZeros a b (length bits) chains.wants → ShowsZeros b c (length bits) chains.writes → ShowsZeros c d (length wide) chains.addresses →
    ShowsZeros d e (length words) chains.values →
    AsksNothing a e words chains
begun_asks a b c d e words bits wide chains one many t u v w = record {
  grows = grows_then a b e t.grows (grows_then b c e u.grows (grows_then c d e v.grows w.grows));
  many = record { wants = t.count ∙ ones; writes = u.count ∙ ones; addresses = v.count ∙ wides; values = w.count };
  shows = λ m r j g o less.
      let to_d = grows_then d e m.signals w.grows g in
      let to_c = grows_then c d m.signals v.grows to_d in
      let to_b = grows_then b c m.signals u.grows to_c in
      same_asked (asked_at r chains j) nothing_asked (t.shows m r j to_b o (subst (λ k. j < k) (sym ones) less)) (u.shows m r j to_c o (subst (λ k. j < k) (sym ones) less))
      (v.shows m r j to_d o (subst (λ k. j < k) (sym wides) less)) (w.shows m r j g o less);
}
  where
    ones : length bits ≡ length words
    ones = ap length one ∙ length-replicate (length words) 1

    wides : length wide ≡ length words
    wides = ap length many ∙ length-replicate (length words) 64

pub begun_links : (a b c d e : List Signal) (words bits wide : List ℕ) (chains : BankRequests) → bits ≡ replicate (length words) 1 → wide ≡ replicate (length words) 64 →
    AreZeroChains a b bits chains.wants → AreZeroChains b c bits chains.writes → AreZeroChains c d wide chains.addresses → AreZeroChains d e words chains.values →
    AreEmptyChains a e words chains
begun_links a b c d e words bits wide chains one many t u v w base ones wides own low fit have_one have_wide have_own =
    let fit_one : (x n : ℕ) → slice_get bits x ≡ Some n → (1 ≤ n) × (n ≤ 64) = λ x n h.
    let is = copies_are (length words) 1 x n (ap (λ l. slice_get l x) (sym one) ∙ h) in (omega arith, omega arith) in
    let fit_wide : (x n : ℕ) → slice_get wide x ≡ Some n → (1 ≤ n) × (n ≤ 64) = λ x n h.
    let is = copies_are (length words) 64 x n (ap (λ l. slice_get l x) (sym many) ∙ h) in (omega arith, omega arith) in
    let has_one = subst (HaveWidths ones) (sym one) have_one in
    let has_wide = subst (HaveWidths wides) (sym many) have_wide in
    let p = t base ones low fit_one has_one in
    let low_b = longer a b p.wires.grows in
    let q = u base ones (omega arith) fit_one has_one in
    let low_c = longer b c q.wires.grows in
    let k = v base wides (omega arith) fit_wide has_wide in
    let low_d = longer c d k.wires.grows in
    let l = w base own (omega arith) fit have_own in
    let from_c = grows_then c d e k.wires.grows l.wires.grows in
    let from_b = grows_then b c e q.wires.grows from_c in
    record {
      wires = wires_then base a b e p.wires (wires_then base b c e q.wires (wires_then base c d e k.wires l.wires));
      chains = record {
        wants = chains_after b e base ones chains.wants from_b p.chains;
        writes = chains_after c e base ones chains.writes from_c q.chains;
        addresses = chains_after d e base wides chains.addresses l.wires.grows k.chains;
        values = l.chains;
      };
    }
