-- The modules of the cores that are wanted, each once.
use Rattle.std.proofs.Common.{◌≡◌, ℕ, suc, ◌+◌, Bool, true, false, List, [], ◌∷◌, ◌++◌, length, map, take, Some, add-one, refl, sym, ap, ◌∙◌, subst, ⊎_elim}
use Rattle.std.specs.Prelude.{nat_lt, slice_get, Result, Ok, Err, IfOk}
use Rattle.lists.proofs.Places.{get_front, get_last, get_mapped, get_pushed, length_more, take_next}
use Rattle.netlist.specs.declared.netlist.Module.{Module}
use Rattle.circuit.specs.Rows.{EachOf}
use Rattle.circuit.specs.Modules.{IsLeaf}
use Rattle.circuit.specs.Interfaces.{IsTableModule}
use Rattle.circuit.specs.Machines.{IsCore}
use Rattle.circuit.proofs.Edges.{each_joined}
use Rattle.bank_cores.specs.declared.bank.Shape.{Shape as BankShape}
use Rattle.core_tables.specs.Family.{CoreKind, Bank, Printer, machine_of, places_of, threads_of, inputs_of, input_widths, output_widths, is_late, IsAddressed, IsTable, IsCoreModule}
use Rattle.core_tables.proofs.Lists.{there}
use Rattle.core_family.specs.declared.cores.Cores.{Cores}
use Rattle.core_family.specs.declared.cores.CoreKind.{CoreKind as Held}
use Rattle.core_family.specs.Kinds.{barrier, thread_ids, one_if}
use Rattle.core_family.specs.View.{kind_of}
use Rattle.core_places.specs.Placing.{has_unset, has_free, mutex, objects, distinct, AreModules}
use Rattle.core_places.specs.Kinds.{IsWantedBank, IsRight, HaveModules}

-- ---- one more

one_more : (threads : ℕ) (kinds : List CoreKind) (modules : List Module) (s : CoreKind) (m : Module) → AreModules threads kinds modules → IsCoreModule threads s m →
    AreModules threads (kinds ++ s ∷ []) (modules ++ m ∷ [])
one_more threads kinds modules s m are is = record {
  count = length_more modules m ∙ ap suc are.count ∙ sym (length_more kinds s);
  each = λ j d e.
      ⊎_elim
      (λ (before : slice_get kinds j ≡ Some d).
      let h = are.each j d before in record { body = h.body; listed = get_front modules (m ∷ []) j h.body h.listed; is = h.is })
      (λ (last : (j ≡ length kinds) × (s ≡ d)).
      record {
        body = m;
        listed = ap (slice_get (modules ++ m ∷ [])) (last.0 ∙ sym are.count) ∙ get_last modules m;
        is = subst (λ (z : CoreKind). IsCoreModule threads z m) last.1 is;
      })
      (get_pushed kinds s j d e);
}

-- ---- each has a module

abbrev IsWanted : ℕ → CoreKind → Type 0
IsWanted threads s = IsRight s × (threads_of s ≡ threads)

banks_right : (threads : ℕ) (banks : List BankShape) → EachOf (IsWantedBank threads) banks → EachOf (IsWanted threads) (map Bank banks)
banks_right threads [] all = tt
banks_right threads (b ∷ banks) all =
    let own = all.0 in
    ((record { asked_by = refl; addressed = own.addressed; shape = own.shape }, own.asked_by), banks_right threads banks all.1)

one_right : (threads : ℕ) (on : Bool) (s : CoreKind) → IsWanted threads s → EachOf (IsWanted threads) (one_if on s)
one_right threads true s is = (is, tt)
one_right threads false s is = tt

all_right : (w : Cores) → HaveModules w → EachOf (IsWanted w.threads) (distinct w)
all_right w right =
    let P = IsWanted w.threads in
    let few = right.few in
    each_joined P ((objects w ++ one_if (nat_lt 0 w.barriers) (barrier w)) ++ one_if w.thread_ids (thread_ids w)) (Printer w.printer ∷ [])
    (each_joined P (objects w ++ one_if (nat_lt 0 w.barriers) (barrier w)) (one_if w.thread_ids (thread_ids w))
    (each_joined P (objects w) (one_if (nat_lt 0 w.barriers) (barrier w))
    (each_joined P (map Bank w.banks ++ one_if (has_unset w) (mutex w false)) (one_if (has_free w) (mutex w true))
    (each_joined P (map Bank w.banks) (one_if (has_unset w) (mutex w false)) (banks_right w.threads w.banks right.banks) (one_right w.threads (has_unset w) (mutex w false) (few, refl)))
    (one_right w.threads (has_free w) (mutex w true) (few, refl)))
    (one_right w.threads (nat_lt 0 w.barriers) (barrier w) (few, refl)))
    (one_right w.threads w.thread_ids (thread_ids w) ((right.some, few), refl)))
    ((right.printer, right.asked_by), tt)

-- ---- as they are made

pub core_module : {E : Type 0} (s : CoreKind) (x : Result Module E) → IsAddressed s → IfOk x (IsCore (machine_of (Some s)) (places_of (Some s)) (threads_of s)) →
    IfOk x (λ m. IsLeaf m (inputs_of s) (is_late s)) → IfOk x (IsTable s) → IfOk x (λ m. IsTableModule m (input_widths s) (output_widths s)) →
    IfOk x (IsCoreModule (threads_of s) s)
core_module s (Ok m) addressed core leaf table stands = record { asked_by = refl; addressed = addressed; core = core; leaf = leaf; table = table; stands = stands }
core_module s (Err e) addressed core leaf table stands = tt

-- the kinds in their order
pub are_distinct : (w : Cores) (a b c d e f : List CoreKind) (banks : List BankShape) (unset free : Bool) (first next : CoreKind) → a ≡ map Bank banks → banks ≡ w.banks →
    b ≡ a ++ one_if unset first → c ≡ b ++ one_if free next → d ≡ c ++ one_if (nat_lt 0 w.barriers) (barrier w) → e ≡ d ++ one_if w.thread_ids (thread_ids w) →
    f ≡ e ++ Printer w.printer ∷ [] → unset ≡ has_unset w → first ≡ mutex w false → free ≡ has_free w → next ≡ mutex w true → f ≡ distinct w
are_distinct w a b c d e f banks unset free first next is_a is_banks is_b is_c is_d is_e is_f is_unset is_first is_free is_next =
    let own : List CoreKind = map Bank w.banks in
    let before : List CoreKind = own ++ one_if (has_unset w) (mutex w false) in
    is_f
    ∙ ap (λ (l : List CoreKind). l ++ Printer w.printer ∷ [])
    (is_e
    ∙ ap (λ (l : List CoreKind). l ++ one_if w.thread_ids (thread_ids w))
    (is_d
    ∙ ap (λ (l : List CoreKind). l ++ one_if (nat_lt 0 w.barriers) (barrier w))
    (is_c
    ∙ ap (λ (l : List CoreKind). l ++ one_if free next)
    (is_b ∙ ap (λ (l : List CoreKind). l ++ one_if unset first) (is_a ∙ ap (λ (bs : List BankShape). map Bank bs) is_banks)
    ∙ ap (λ (z : Bool). own ++ one_if z first) is_unset ∙ ap (λ (z : CoreKind). own ++ one_if (has_unset w) z) is_first)
    ∙ ap (λ (z : Bool). before ++ one_if z next) is_free ∙ ap (λ (z : CoreKind). before ++ one_if (has_free w) z) is_next)))

module _ (w : Cores) (right : HaveModules w) (held : List Held) (are : map kind_of held ≡ distinct w) (i : ℕ) (k : Held) (listed : slice_get held i ≡ Some k) where
  wanted : IsWanted w.threads (kind_of k)
  wanted = there (IsWanted w.threads) (distinct w) (all_right w right) i (kind_of k) (ap (λ (l : List CoreKind). slice_get l i) (sym are) ∙ get_mapped kind_of held i k listed)

  pub is_right : IsRight (kind_of k)
  is_right = wanted.0

  pub one_made : (modules after : List Module) (m : Module) → AreModules w.threads (take i (map kind_of held)) modules → IsCoreModule (threads_of (kind_of k)) (kind_of k) m →
      after ≡ modules ++ m ∷ [] → AreModules w.threads (take (i + 1) (map kind_of held)) after
  one_made modules after m before is same =
      subst (λ (ms : List Module). AreModules w.threads (take (i + 1) (map kind_of held)) ms) (sym same)
      (subst (λ (ks : List CoreKind). AreModules w.threads ks (modules ++ m ∷ []))
      (sym (ap (λ n. take n (map kind_of held)) (add-one i) ∙ take_next (map kind_of held) i (kind_of k) (get_mapped kind_of held i k listed)))
      (one_more w.threads (take i (map kind_of held)) modules (kind_of k) m before (subst (λ n. IsCoreModule n (kind_of k) m) wanted.1 is)))
