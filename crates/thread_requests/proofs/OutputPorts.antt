-- The output ports.
use Rattle.std.proofs.Common.{◌≡◌, ◌≢◌, ℕ, zero, suc, ◌+◌, ◌<◌, true, false, List, [], ◌∷◌, ◌++◌, length, take, slice_get, Some, refl, sym, ap, subst, ◌∙◌, arith, append_assoc}
use Rattle.std.proofs.Common.{⊎_elim, add-one}
use Rattle.std.specs.Prelude.{slice_index}
use Rattle.std.proofs.lemmas.List.{append-nil}
use Rattle.std.proofs.lemmas.Bool.{cases_eq}
use Rattle.lists.proofs.Places.{get_last}
use Rattle.netlist.specs.declared.netlist.Value.TheVariants.{Copy}
use Rattle.netlist.specs.declared.netlist.Source.TheVariants.{Assigned}
use Rattle.netlist.specs.declared.netlist.Signal.{Signal}
use Rattle.operator_wires.specs.declared.wires.Role.TheVariants.{Need}
use Rattle.operator_wires.specs.Gives.{Stands}
use Rattle.operator_wires.specs.Built.{Lays, is_single}
use Rattle.operator_wires.proofs.PutSignals.{grows_refl, grows_then, listed}
use Rattle.block_datapath.specs.declared.registers.Held.{Held}
use Rattle.block_datapath.specs.declared.requests.BankRequests.{BankRequests}
use Rattle.thread_slots.specs.declared.requests.Requests.{Requests}
use Rattle.thread_slots.specs.declared.shape.Served.{Served}
use Rattle.thread_slots.specs.Requests.{group}
use Rattle.block_ir.specs.declared.service.Service.{Service}
use Rattle.thread_slots.specs.Services.{services, number_width}
use Rattle.thread_slots.specs.Wired.{field_width}
use Rattle.thread_requests.specs.declared.outputs.Row.{Row}
use Rattle.thread_requests.specs.Outputs.{CopiesAt, LaysRows, LaysDone, LaysOutputs, AreNumbered}
use Rattle.thread_requests.specs.Outputs.{joined, request_row, field_row, bank_rows, rows_at, rows_from, fields_from, act_rows, acts_from, rows_of}
use Rattle.thread_slots.proofs.LaidRegisters.{stands_last, stands_grow, stands_long, stands_later}

-- ---- rows are put together

-- one more bank
rows_next : (asks : List ℕ) (banks : BankRequests) (words : List Held) (from n : ℕ) (h : Held) → slice_get words n ≡ Some h
    → joined (rows_from asks banks from (take (suc n) words)) ≡ joined (rows_from asks banks from (take n words)) ++ rows_at asks banks (from + n) h.width
rows_next asks banks [] from n h listed = absurd cc
rows_next asks banks (g ∷ words) from zero h listed =
    let same : g ≡ h = cc in
    append-nil (rows_at asks banks from g.width) ∙ ap (λ (z : Held). rows_at asks banks from z.width) same
    ∙ ap (λ k. rows_at asks banks k h.width) (let at : from ≡ from + 0 = omega arith in at)
rows_next asks banks (g ∷ words) from (suc n) h listed =
    ap (λ l. rows_at asks banks from g.width ++ l) (rows_next asks banks words (suc from) n h listed)
    ∙ sym (append_assoc (rows_at asks banks from g.width) (joined (rows_from asks banks (suc from) (take n words))) (rows_at asks banks (suc from + n) h.width))
    ∙ ap (λ k. (rows_at asks banks from g.width ++ joined (rows_from asks banks (suc from) (take n words))) ++ rows_at asks banks k h.width)
    (let at : suc from + n ≡ from + suc n = omega arith in at)

pub banks_more : (old before after : List Row) (asks : List ℕ) (banks : BankRequests) (words : List Held) (n : ℕ) (h : Held) (ask writes address value : ℕ)
    → before ≡ old ++ joined (rows_from asks banks 0 (take n words)) → slice_get words n ≡ Some h → ask ≡ slice_index asks n → writes ≡ slice_index banks.writes n
    → address ≡ slice_index banks.addresses n → value ≡ slice_index banks.values n → after ≡ before ++ bank_rows h.width ask writes address value
    → after ≡ old ++ joined (rows_from asks banks 0 (take (n + 1) words))
banks_more old before after asks banks words n h ask writes address value e listed ask_is writes_is address_is value_is made =
    let own : bank_rows h.width ask writes address value ≡ rows_at asks banks n h.width =
    ap (λ k. bank_rows h.width k writes address value) ask_is ∙ ap (λ k. bank_rows h.width (slice_index asks n) k address value) writes_is
    ∙ ap (λ k. bank_rows h.width (slice_index asks n) (slice_index banks.writes n) k value) address_is
    ∙ ap (bank_rows h.width (slice_index asks n) (slice_index banks.writes n) (slice_index banks.addresses n)) value_is in
    made ∙ ap (λ l. l ++ bank_rows h.width ask writes address value) e ∙ ap (λ l. (old ++ joined (rows_from asks banks 0 (take n words))) ++ l) own
    ∙ append_assoc old (joined (rows_from asks banks 0 (take n words))) (rows_at asks banks n h.width)
    ∙ ap (λ k. old ++ (joined (rows_from asks banks 0 (take n words)) ++ rows_at asks banks k h.width)) (let at : n ≡ 0 + n = omega arith in at)
    ∙ ap (λ l. old ++ l) (sym (rows_next asks banks words 0 n h listed))
    ∙ ap (λ k. old ++ joined (rows_from asks banks 0 (take k words))) (sym (add-one n))

-- one more field
fields_next : (first : ℕ) (fields : List ℕ) (from n x : ℕ) → slice_get fields n ≡ Some x
    → fields_from first from (take (suc n) fields) ≡ fields_from first from (take n fields) ++ field_row (field_width first (from + n)) x ∷ []
fields_next first [] from n x listed = absurd cc
fields_next first (y ∷ fields) from zero x listed =
    let same : y ≡ x = cc in
    ap (λ z. field_row (field_width first from) z ∷ []) same
    ∙ ap (λ k. field_row (field_width first k) x ∷ []) (let at : from ≡ from + 0 = omega arith in at)
fields_next first (y ∷ fields) from (suc n) x listed =
    ap (λ l. field_row (field_width first from) y ∷ l) (fields_next first fields (suc from) n x listed)
    ∙ ap (λ k. field_row (field_width first from) y ∷ (fields_from first (suc from) (take n fields) ++ field_row (field_width first k) x ∷ []))
    (let at : suc from + n ≡ from + suc n = omega arith in at)

pub fields_more : (old before after : List Row) (first : ℕ) (fields : List ℕ) (n w x : ℕ) → before ≡ old ++ fields_from first 0 (take n fields)
    → slice_get fields n ≡ Some x → w ≡ field_width first n → after ≡ before ++ field_row w x ∷ []
    → after ≡ old ++ fields_from first 0 (take (n + 1) fields)
fields_more old before after first fields n w x e listed wide made =
    made ∙ ap (λ l. l ++ field_row w x ∷ []) e ∙ ap (λ k. (old ++ fields_from first 0 (take n fields)) ++ field_row k x ∷ []) wide
    ∙ append_assoc old (fields_from first 0 (take n fields)) (field_row (field_width first n) x ∷ [])
    ∙ ap (λ k. old ++ (fields_from first 0 (take n fields) ++ field_row (field_width first k) x ∷ [])) (let at : n ≡ 0 + n = omega arith in at)
    ∙ ap (λ l. old ++ l) (sym (fields_next first fields 0 n x listed))
    ∙ ap (λ k. old ++ fields_from first 0 (take k fields)) (sym (add-one n))

-- one more core that acts ask
acts_next : (served : Served) (asks : List ℕ) (requests : Requests) (kinds : List Service) (from n : ℕ) (k : Service) → slice_get kinds n ≡ Some k
    → joined (acts_from served asks requests from (take (suc n) kinds))
    ≡ joined (acts_from served asks requests from (take n kinds)) ++ act_rows served (slice_index asks (from + n)) requests k
acts_next served asks requests [] from n k listed = absurd cc
acts_next served asks requests (g ∷ kinds) from zero k listed =
    let same : g ≡ k = cc in
    append-nil (act_rows served (slice_index asks from) requests g)
    ∙ ap (λ (z : Service). act_rows served (slice_index asks from) requests z) same
    ∙ ap (λ j. act_rows served (slice_index asks j) requests k) (let at : from ≡ from + 0 = omega arith in at)
acts_next served asks requests (g ∷ kinds) from (suc n) k listed =
    let own = act_rows served (slice_index asks from) requests g in
    let rest = joined (acts_from served asks requests (suc from) (take n kinds)) in
    ap (λ l. own ++ l) (acts_next served asks requests kinds (suc from) n k listed)
    ∙ sym (append_assoc own rest (act_rows served (slice_index asks (suc from + n)) requests k))
    ∙ ap (λ j. (own ++ rest) ++ act_rows served (slice_index asks j) requests k) (let at : suc from + n ≡ from + suc n = omega arith in at)

pub acts_more : (old before after : List Row) (served : Served) (asks : List ℕ) (requests : Requests) (banks : ℕ) (kinds : List Service) (n : ℕ) (k : Service) (ask : ℕ)
    → before ≡ old ++ joined (acts_from served asks requests banks (take n kinds)) → slice_get kinds n ≡ Some k → ask ≡ slice_index asks (banks + n)
    → after ≡ before ++ act_rows served ask requests k → after ≡ old ++ joined (acts_from served asks requests banks (take (n + 1) kinds))
acts_more old before after served asks requests banks kinds n k ask e listed ask_is made =
    let first = joined (acts_from served asks requests banks (take n kinds)) in
    let own = act_rows served (slice_index asks (banks + n)) requests k in
    made ∙ ap (λ l. l ++ act_rows served ask requests k) e ∙ ap (λ j. (old ++ first) ++ act_rows served j requests k) ask_is
    ∙ append_assoc old first own ∙ ap (λ l. old ++ l) (sym (acts_next served asks requests kinds banks n k listed))
    ∙ ap (λ j. old ++ joined (acts_from served asks requests banks (take j kinds))) (sym (add-one n))

-- the rows of cores behind others
pub joined_then : (xs ys : List (List Row)) → joined (xs ++ ys) ≡ joined xs ++ joined ys
joined_then [] ys = refl
joined_then (x ∷ xs) ys = ap (λ l. x ++ l) (joined_then xs ys) ∙ sym (append_assoc x (joined xs) (joined ys))

-- four rows one after the other
pub four_added : (x a b c d : List Row) (p q r s : Row) → a ≡ x ++ p ∷ [] → b ≡ a ++ q ∷ [] → c ≡ b ++ r ∷ [] → d ≡ c ++ s ∷ [] → d ≡ x ++ p ∷ q ∷ r ∷ s ∷ []
four_added x a b c d p q r s one two three four =
    four ∙ ap (λ l. l ++ s ∷ []) (three ∙ ap (λ l. l ++ r ∷ []) (two ∙ ap (λ l. l ++ q ∷ []) one)) ∙ regroup
  where
    regroup : (((x ++ p ∷ []) ++ q ∷ []) ++ r ∷ []) ++ s ∷ [] ≡ x ++ p ∷ q ∷ r ∷ s ∷ []
    regroup = simp append_assoc

-- ---- rows are laid

pub rows_none : (a : List Signal) (rows : List Row) → LaysRows a a rows 0
rows_none a rows = record { grows = grows_refl a; long = omega arith; each = λ k row lt. absurd (omega arith) }

pub rows_more : (a b c : List Signal) (rows : List Row) (n place : ℕ) (row : Row) → LaysRows a b rows n → slice_get rows n ≡ Some row
    → Stands b c row.width (Assigned (Copy row.source)) place → LaysRows a c rows (n + 1)
rows_more a b c rows n place row t here u =
    let more = stands_grow b c row.width place (Assigned (Copy row.source)) u in
    let long = t.long in
    let c_long = stands_long b c row.width place (Assigned (Copy row.source)) u in
    record {
      grows = grows_then a b c t.grows more;
      long = omega arith;
      each = λ k own lt there. ⊎_elim
          (λ (same : k ≡ n).
          let one : row ≡ own = (let z = ap (slice_get rows) same in cc) in
          let at : length b ≡ length a + k = omega arith in
          subst (λ (p : ℕ). CopiesAt c p own.width own.source) at
          (subst (λ (z : Row). CopiesAt c (length b) z.width z.source) one (stands_last b c row.width place (Assigned (Copy row.source)) u)))
          (λ (ne : k ≢ n).
          stands_later b c (length a + k) own.width (Assigned (Copy own.source)) more (t.each k own (let less : k < n = omega arith in less) there))
          (cases_eq k n);
    }

-- ---- all outputs

pub outputs_laid : (a b c d : List Signal) (served : Served) (needs done place : ℕ) (words : List Held) (asks : List ℕ) (requests : Requests)
    → LaysRows a b (joined (rows_of served words asks requests)) (length (joined (rows_of served words asks requests)))
    → Stands b c 1 (Assigned (Copy needs)) place → Lays b c Need 1 true (Assigned (Copy needs)) place → LaysDone c d done
    → LaysOutputs served a d words asks requests needs done
outputs_laid a b c d served needs done place words asks requests t u put v =
    let more = stands_grow b c 1 place (Assigned (Copy needs)) u in
    let c_long = stands_long b c 1 place (Assigned (Copy needs)) u in
    let d_long = v.long in
    record {
      with_rows = b;
      rows = t;
      grows = grows_then b c d more v.grows;
      long = omega arith;
      need = stands_later c d (length b) 1 (Assigned (Copy needs)) v.grows (stands_last b c 1 place (Assigned (Copy needs)) u);
      need_put = record {
        signal = put.signal;
        listed = listed c d (length b) put.signal v.grows (ap (λ (l : List Signal). slice_get l (length b)) put.is ∙ get_last b put.signal);
        named = put.named;
        flag = put.flag;
      };
      done_at = subst (λ (p : ℕ). CopiesAt d p 1 done) c_long v.at;
    }

-- ---- the names of rows tell their places

-- of two lists of such rows
numbered_then : (xs ys : List Row) → AreNumbered xs → AreNumbered ys → AreNumbered (xs ++ ys)
numbered_then [] ys t u k row e = u k row e
numbered_then (x ∷ xs) ys t u zero row e = t zero row e
numbered_then (x ∷ xs) ys t u (suc k) row e = numbered_then xs ys (λ j own there. t (suc j) own there) u k row e

numbered_first : (x : Row) (xs : List Row) → is_single x.role ≡ false → AreNumbered xs → AreNumbered (x ∷ xs)
numbered_first x xs e t zero row there = let same : x ≡ row = cc in ap (λ (z : Row). is_single z.role) (sym same) ∙ e
numbered_first x xs e t (suc k) row there = t k row there

fields_numbered : (first n : ℕ) (fields : List ℕ) → AreNumbered (fields_from first n fields)
fields_numbered first n [] = λ k row e. absurd cc
fields_numbered first n (x ∷ fields) = numbered_first (field_row (field_width first n) x) (fields_from first (suc n) fields) refl (fields_numbered first (suc n) fields)

acts_numbered : (served : Served) (asks : List ℕ) (requests : Requests) (n : ℕ) (kinds : List Service) → AreNumbered (joined (acts_from served asks requests n kinds))
acts_numbered served asks requests n [] = λ k row e. absurd cc
acts_numbered served asks requests n (g ∷ kinds) =
    numbered_then (act_rows served (slice_index asks n) requests g) (joined (acts_from served asks requests (suc n) kinds))
    (numbered_first (request_row (slice_index asks n)) (fields_from (number_width served g) 0 (group requests g).fields) refl
    (fields_numbered (number_width served g) 0 (group requests g).fields))
    (acts_numbered served asks requests (suc n) kinds)

banks_numbered : (asks : List ℕ) (banks : BankRequests) (n : ℕ) (words : List Held) → AreNumbered (joined (rows_from asks banks n words))
banks_numbered asks banks n [] = λ k row e. absurd cc
banks_numbered asks banks n (h ∷ words) =
    let value = field_row h.width (slice_index banks.values n) in
    let address = field_row 64 (slice_index banks.addresses n) in
    let writes = field_row 1 (slice_index banks.writes n) in
    numbered_then (rows_at asks banks n h.width) (joined (rows_from asks banks (suc n) words))
    (numbered_first (request_row (slice_index asks n)) (writes ∷ address ∷ value ∷ []) refl (numbered_first writes (address ∷ value ∷ []) refl
    (numbered_first address (value ∷ []) refl (numbered_first value [] refl (λ k row e. absurd cc)))))
    (banks_numbered asks banks (suc n) words)

pub rows_numbered : (served : Served) (words : List Held) (asks : List ℕ) (requests : Requests) → AreNumbered (joined (rows_of served words asks requests))
rows_numbered served words asks requests =
    subst AreNumbered (sym (joined_then (rows_from asks requests.banks 0 words) (acts_from served asks requests (length words) (services served))))
    (numbered_then (joined (rows_from asks requests.banks 0 words)) (joined (acts_from served asks requests (length words) (services served)))
    (banks_numbered asks requests.banks 0 words) (acts_numbered served asks requests (length words) (services served)))
