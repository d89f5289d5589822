-- Words of banks that are heard: one, and one after the other.
use Rattle.std.proofs.Common.{◌≡◌, ◌≢◌, ℕ, suc, ◌+◌, ◌<◌, ◌≤◌, nat_eq, false, if◌then◌else◌, List, [], ◌∷◌, ◌++◌, length, slice_get, Some, refl, sym, ap, subst, ◌∙◌, arith}
use Rattle.std.proofs.Common.{⊎_elim, length-append}
use Rattle.std.proofs.lemmas.Bool.{cases_lt, cases_eq}
use Rattle.std.proofs.lemmas.Nat.{pow_pos}
use Rattle.lists.proofs.Places.{get_last, get_front, get_earlier}
use Rattle.netlist.specs.declared.netlist.Value.{Value}
use Rattle.netlist.specs.declared.netlist.Value.TheVariants.{Constant, Conditional}
use Rattle.netlist.specs.declared.netlist.Source.TheVariants.{Assigned}
use Rattle.netlist.specs.declared.netlist.Signal.{Signal}
use Rattle.verilog_meaning.specs.Readings.{value}
use Rattle.operator_wires.specs.declared.wires.Role.TheVariants.{Wire}
use Rattle.operator_wires.specs.Gives.{Grows, Gives}
use Rattle.operator_wires.specs.Built.{Base, Lays, IsEarlier}
use Rattle.operator_wires.specs.Added.{IsAdded}
use Rattle.operator_wires.proofs.PutSignals.{grows_refl, grows_then}
use Rattle.operator_wires.proofs.BuiltWires.{stands_after, room_of, longer, wires_none, wires_then, constant_right, choice_right}
use Rattle.block_datapath.specs.declared.registers.Held.{Held}
use Rattle.thread_slots.specs.Hearing.{IsHeard, AddsBehind, HearsWord, HearsWords, AddAllBehind}

-- ---- one word

lays_long : (a b : List Signal) (w place : ℕ) (v : Value) → Lays a b Wire w false (Assigned v) place → length b ≡ suc (length a)
lays_long a b w place v t = ap length t.is ∙ length-append a (t.signal ∷ []) ∙ (let next : length a + 1 ≡ suc (length a) = omega arith in next)

pub word_heard : (a b c : List Signal) (need silence place : ℕ) (word : Held) → Gives a b silence word.width (λ m r. value m r (Constant 0))
    → Lays a b Wire word.width false (Assigned (Constant 0)) silence → IsAdded a b word.width (Constant 0) silence
    → Gives b c place word.width (λ m r. value m r (Conditional need word.register silence)) →
    Lays b c Wire word.width false (Assigned (Conditional need word.register silence)) place
    → IsAdded b c word.width (Conditional need word.register silence) place → HearsWord a c need word (record { register = place; width = word.width })
word_heard a b c need silence place word zeros zero_laid zeros_added gives laid added = record {
  grows = grows_then a b c zeros.grows gives.grows;
  heard = record {
    says = refl;
    wide = gives.wide;
    shows = λ m r g o.
        gives.shows m r g o
        ∙ ap (λ z. if nat_eq (r.signal need) 0 then z else r.signal word.register) (zeros.shows m r (grows_then b c m.signals gives.grows g) o);
  };
  silent = λ m r x g o past within none.
      let b_long = lays_long a b word.width silence (Constant 0) zero_laid in
      let c_long = lays_long b c word.width place (Conditional need word.register silence) laid in
      let zero_is = zeros.shows m r (grows_then b c m.signals gives.grows g) o in
      ⊎_elim
      (λ (same : x ≡ length a). ap r.signal (same ∙ sym zero_laid.last) ∙ zero_is)
      (λ (ne : x ≢ length a).
      let same : x ≡ length b = omega arith in
      ap r.signal (same ∙ sym laid.last) ∙ gives.shows m r g o
      ∙ ap (λ z. if nat_eq z 0 then r.signal silence else r.signal word.register) none ∙ zero_is)
      (cases_eq x (length a));
  wired = λ base bit own.
      let low = own.low in
      let high = own.high in
      let first = zeros_added base (constant_right a base word.width 0 (room_of a base need 1 bit) low high (pow_pos word.width)) in
      let last =
      added base
      (choice_right b base word.width need word.register silence (stands_after a b base need 1 zeros.grows bit)
      (stands_after a b base word.register word.width zeros.grows own) first.stands) in
      record {
        wires = wires_then base a b c first.wires last.wires;
        stands = λ later le. record {
          signal = last.stands.signal;
          listed = last.stands.listed;
          wide = last.stands.wide;
          after = (let at = laid.last in let long = longer a b zeros.grows in omega arith);
          low = last.stands.low;
          high = last.stands.high;
        };
      };
}

-- ---- one more word

heard_later : (b c : List Signal) (need : ℕ) (word out : Held) → Grows b c → IsHeard b need word out → IsHeard c need word out
heard_later b c need word out g t = record {
  says = t.says;
  wide = λ m h. t.wide m (grows_then b c m.signals g h);
  shows = λ m r h. t.shows m r (grows_then b c m.signals g h);
}

pub heard_none : (a : List Signal) (need : ℕ) (words outs : List Held) → outs ≡ [] → HearsWords a a need words 0 outs
heard_none a need words outs e = record {
  grows = grows_refl a;
  silent = λ m r x g o past within. absurd (omega arith);
  count = ap length e;
  each = λ k word less. absurd
      (omega arith);
}

pub heard_more : (a b c : List Signal) (need n : ℕ) (words outs after : List Held) (word one : Held) → HearsWords a b need words n outs → slice_get words n ≡ Some word
    → HearsWord b c need word one → after ≡ outs ++ one ∷ [] → HearsWords a c need words (n + 1) after
heard_more a b c need n words outs after word one t here u e =
    subst (λ (l : List Held). HearsWords a c need words (n + 1) l) (sym e)
    (record {
      grows = grows_then a b c t.grows u.grows;
      silent = λ m r x g o past within none.
          ⊎_elim (λ (front : x < length b). t.silent m r x (grows_then b c m.signals u.grows g) o past front none)
          (λ (behind : length b ≤ x). u.silent m r x g o behind within none)
          (cases_lt x (length b));
      count = length-append outs (one ∷ []) ∙ ap (λ k. k + 1) t.count;
      each = λ k v lt there. ⊎_elim
          (λ (same : k ≡ n).
          let is : word ≡ v = (let z = ap (slice_get words) same in cc) in (
            one,
            ap (slice_get (outs ++ one ∷ [])) (same ∙ sym t.count) ∙ get_last outs one,
            subst (λ (z : Held). IsHeard c need z one) is u.heard,
          ))
          (λ (ne : k ≢ n).
          let less : k < n = omega arith in
          let f = t.each k v less there in
          (f.0, get_front outs (one ∷ []) k f.0 f.1, heard_later b c need v f.0 u.grows f.2))
          (cases_eq k n);
    })

pub behind_none : (base : Base) (a : List Signal) (outs : List Held) → outs ≡ [] → AddAllBehind base a a outs
behind_none base a outs e = record {
  wires = wires_none base a;
  stand = λ later le k out there. absurd (let none : slice_get {X = Held} [] k ≡ Some out = ap (λ (l : List Held). slice_get l k) (sym e) ∙ there in cc);
}

pub behind_more : (base : Base) (a b c : List Signal) (outs after : List Held) (one : Held) → AddAllBehind base a b outs → AddsBehind base b c one → after ≡ outs ++ one ∷ []
    → AddAllBehind base a c after
behind_more base a b c outs after one t u e = record {
  wires = wires_then base a b c t.wires u.wires;
  stand = λ later le k out there.
      let put : slice_get (outs ++ one ∷ []) k ≡ Some out = ap (λ (l : List Held). slice_get l k) (sym e) ∙ there in
      ⊎_elim
      (λ (same : k ≡ length outs).
      let is : one ≡ out = (let z = ap (slice_get (outs ++ one ∷ [])) same in let w = get_last outs one in cc) in
      let long = longer a b t.wires.grows in
      subst (λ (z : Held). IsEarlier c later z.register z.width) is (u.stands later (omega arith)))
      (λ (ne : k ≢ length outs).
      stands_after b c later out.register out.width u.wires.grows (t.stand later le k out (get_earlier outs one k out ne put)))
      (cases_eq k (length outs));
}
