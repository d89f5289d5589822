-- Rows of cores, one core's behind another's, and the widths that they have.
use Rattle.std.proofs.Common.{◌≡◌, ℕ, zero, suc, ◌+◌, ◌-◌, ◌<◌, ◌≤◌, List, [], ◌∷◌, ◌++◌, length, map, take, slice_get, Some, refl, sym, ap, ◌∙◌, arith, ⊎_elim}
use Rattle.std.proofs.Common.{length-append}
use Rattle.std.specs.Prelude.{replicate, slice_index}
use Rattle.std.proofs.lemmas.Bool.{cases_lt}
use Rattle.std.proofs.lemmas.List.{length-map, map-append}
use Rattle.lists.proofs.Places.{get_there, get_front, get_right}
use Rattle.leaf_machine.specs.Ports.{CorePort, asks_of, ask_place}
use Rattle.block_datapath.specs.declared.registers.Held.{Held}
use Rattle.block_datapath.specs.declared.requests.BankRequests.{BankRequests}
use Rattle.block_ir.specs.declared.service.Service.{Service}
use Rattle.thread_slots.specs.declared.requests.Requests.{Requests}
use Rattle.thread_slots.specs.declared.shape.Served.{Served}
use Rattle.thread_slots.specs.Requests.{group}
use Rattle.thread_slots.specs.Services.{services, number_width, value_count}
use Rattle.thread_slots.specs.Wired.{field_width}
use Rattle.thread_slots.proofs.Linked.{later_field}
use Rattle.thread_requests.specs.declared.outputs.Row.{Row}
use Rattle.thread_requests.specs.Early.{held_width}
use Rattle.thread_requests.specs.Outputs.{joined, request_row, field_row, rows_at, rows_from, fields_from, act_rows, acts_from, rows_of}
use Rattle.thread_layout.specs.Thread.{bank_port, act_port}

-- ---- rows

-- row j of core k
pub joined_there : (rows : List (List Row)) (k j : ℕ) (own : List Row) (row : Row) → slice_get rows k ≡ Some own → slice_get own j ≡ Some row
    → slice_get (joined rows) (length (joined (take k rows)) + j) ≡ Some row
joined_there [] k j own row e f = absurd cc
joined_there (o ∷ rows) zero j own row e f =
    let same : own ≡ o = cc in
    let there : slice_get o j ≡ Some row = ap (λ z. slice_get z j) (sym same) ∙ f in
    ap (slice_get (o ++ joined rows)) (let z : 0 + j ≡ j = omega arith in z) ∙ get_front o (joined rows) j row there
joined_there (o ∷ rows) (suc k) j own row e f =
    let long = length-append o (joined (take k rows)) in
    let at : length (o ++ joined (take k rows)) + j ≡ length o + (length (joined (take k rows)) + j) = omega arith in
    ap (slice_get (o ++ joined rows)) at ∙ get_right o (joined rows) (length (joined (take k rows)) + j) ∙ joined_there rows k j own row e f

-- each row is one of some core
pub record IsRowAt (rows : List (List Row)) (x : ℕ) : Type 0 where
  pub core : ℕ
  pub part : ℕ
  pub own : List Row
  pub row : Row
  pub listed : slice_get rows core ≡ Some own
  pub there : slice_get own part ≡ Some row
  pub place : x ≡ length (joined (take core rows)) + part

found_here : (o : List Row) (rows : List (List Row)) (x : ℕ) → x < length o → IsRowAt (o ∷ rows) x
found_here o rows x h =
    let found = get_there o x h in
    record { core = 0; part = x; own = o; row = found.0; listed = refl; there = found.1; place = (let z : x ≡ 0 + x = omega arith in z) }

found_later : (o : List Row) (rows : List (List Row)) (x : ℕ) → length o ≤ x → IsRowAt rows (x - length o) → IsRowAt (o ∷ rows) x
found_later o rows x h rest =
    let before : length (joined (take (suc rest.core) (o ∷ rows))) ≡ length o + length (joined (take rest.core rows)) = length-append o (joined (take rest.core rows)) in
    let place = rest.place in
    record {
      core = suc rest.core;
      part = rest.part;
      own = rest.own;
      row = rest.row;
      listed = rest.listed;
      there = rest.there;
      place = (let z : x ≡ length (joined (take (suc rest.core) (o ∷ rows))) + rest.part = omega arith in z);
    }

pub row_found : (rows : List (List Row)) (x : ℕ) → x < length (joined rows) → IsRowAt rows x
row_found [] x less = absurd (omega arith)
row_found (o ∷ rows) x less =
    let long : length (joined (o ∷ rows)) ≡ length o + length (joined rows) = length-append o (joined rows) in
    ⊎_elim (found_here o rows x) (λ (h : length o ≤ x). found_later o rows x h (row_found rows (x - length o) (omega arith))) (cases_lt x (length o))

-- ---- widths

abbrev pub row_width : Row → ℕ
row_width row = row.width

abbrev pub own_asks : CorePort → List ℕ
own_asks p = p.asks

-- the rows of each core have the widths of its port
abbrev pub HaveWidths : List (List Row) → List CorePort → Type 0
HaveWidths rows ports = map (map row_width) rows ≡ map own_asks ports

pub place_of_rows : (rows : List (List Row)) (ports : List CorePort) → HaveWidths rows ports → (k : ℕ) → ask_place ports k ≡ length (joined (take k rows))
place_of_rows [] [] e zero = refl
place_of_rows [] [] e (suc k) = refl
place_of_rows [] (p ∷ ports) e k = absurd cc
place_of_rows (o ∷ rows) [] e k = absurd cc
place_of_rows (o ∷ rows) (p ∷ ports) e zero = refl
place_of_rows (o ∷ rows) (p ∷ ports) e (suc k) =
    let head : map row_width o ≡ own_asks p = cc in
    let tail : map (map row_width) rows ≡ map own_asks ports = cc in
    let one : length p.asks ≡ length o = ap length (sym head) ∙ length-map o row_width in
    let rest = place_of_rows rows ports tail k in
    let left : ask_place (p ∷ ports) (suc k) ≡ length p.asks + ask_place ports k = length-append p.asks (asks_of (take k ports)) in
    let right : length (joined (take (suc k) (o ∷ rows))) ≡ length o + length (joined (take k rows)) = length-append o (joined (take k rows)) in
    omega arith

pub all_widths : (rows : List (List Row)) (ports : List CorePort) → HaveWidths rows ports → asks_of ports ≡ map row_width (joined rows)
all_widths [] [] e = refl
all_widths [] (p ∷ ports) e = absurd cc
all_widths (o ∷ rows) [] e = absurd cc
all_widths (o ∷ rows) (p ∷ ports) e =
    let head : map row_width o ≡ own_asks p = cc in
    let tail : map (map row_width) rows ≡ map own_asks ports = cc in
    ap (λ l. l ++ asks_of ports) (sym head) ∙ ap (λ l. map row_width o ++ l) (all_widths rows ports tail) ∙ sym (map-append row_width o (joined rows))

pub all_count : (rows : List (List Row)) (ports : List CorePort) → HaveWidths rows ports → length (asks_of ports) ≡ length (joined rows)
all_count rows ports e = ap length (all_widths rows ports e) ∙ length-map (joined rows) row_width

-- ---- the rows of banks and of those that acts ask

fields_widths : (w n : ℕ) (fields : List ℕ) → map row_width (fields_from w (suc n) fields) ≡ replicate (length fields) 64
fields_widths w n [] = refl
fields_widths w n (x ∷ fields) =
    ap (λ v. v ∷ map row_width (fields_from w (suc (suc n)) fields)) (later_field w n) ∙ ap (λ l. 64 ∷ l) (fields_widths w (suc n) fields)

request_widths : (w values : ℕ) (fields : List ℕ) (ask : ℕ) → length fields ≡ suc values
    → map row_width (request_row ask ∷ fields_from w 0 fields) ≡ 1 ∷ w ∷ replicate values 64
request_widths w values [] ask e = absurd cc
request_widths w values (x ∷ fields) ask e =
    let count : length fields ≡ values = omega arith in
    ap (λ l. 1 ∷ w ∷ l) (fields_widths w 0 fields ∙ ap (λ n. replicate n 64) count)

pub acts_widths : (served : Served) (asks : List ℕ) (requests : Requests) (n : ℕ) (kinds : List Service) → ((s : Service) → length (group requests s).fields ≡ suc (value_count served s))
    → HaveWidths (acts_from served asks requests n kinds) (map (act_port served) kinds)
acts_widths served asks requests n [] counts = refl
acts_widths served asks requests n (k ∷ kinds) counts =
    ap (λ l. l ∷ map (map row_width) (acts_from served asks requests (suc n) kinds))
    (request_widths (number_width served k) (value_count served k) (group requests k).fields (slice_index asks n) (counts k))
    ∙ ap (λ l. (act_port served k).asks ∷ l) (acts_widths served asks requests (suc n) kinds counts)

pub rows_widths : (asks : List ℕ) (banks : BankRequests) (n : ℕ) (words : List Held) (rest : List (List Row)) (ports : List CorePort) → HaveWidths rest ports
    → HaveWidths (rows_from asks banks n words ++ rest) (map bank_port (map held_width words) ++ ports)
rows_widths asks banks n [] rest ports e = e
rows_widths asks banks n (h ∷ words) rest ports e = ap (λ l. (1 ∷ 1 ∷ 64 ∷ h.width ∷ []) ∷ l) (rows_widths asks banks (suc n) words rest ports e)

rows_count : (asks : List ℕ) (banks : BankRequests) (n : ℕ) (words : List Held) → length (rows_from asks banks n words) ≡ length words
rows_count asks banks n [] = refl
rows_count asks banks n (h ∷ words) = ap suc (rows_count asks banks (suc n) words)

acts_there : (served : Served) (asks : List ℕ) (requests : Requests) (from : ℕ) (kinds : List Service) (n : ℕ) (k : Service) → slice_get kinds n ≡ Some k
    → slice_get (acts_from served asks requests from kinds) n ≡ Some (act_rows served (slice_index asks (from + n)) requests k)
acts_there served asks requests from [] n k e = absurd cc
acts_there served asks requests from (g ∷ kinds) zero k e =
    let same : g ≡ k = cc in
    ap (λ (z : Service). Some (act_rows served (slice_index asks from) requests z)) same
    ∙ ap (λ j. Some (act_rows served (slice_index asks j) requests k)) (let at : from ≡ from + 0 = omega arith in at)
acts_there served asks requests from (g ∷ kinds) (suc n) k e =
    acts_there served asks requests (suc from) kinds n k e
    ∙ ap (λ j. Some (act_rows served (slice_index asks j) requests k)) (let at : suc from + n ≡ from + suc n = omega arith in at)

-- core n behind the banks
pub act_there : (served : Served) (words : List Held) (asks : List ℕ) (requests : Requests) (n : ℕ) (k : Service) → slice_get (services served) n ≡ Some k
    → slice_get (rows_of served words asks requests) (length words + n) ≡ Some (act_rows served (slice_index asks (length words + n)) requests k)
act_there served words asks requests n k e =
    let banks = rows_from asks requests.banks 0 words in
    let acts = acts_from served asks requests (length words) (services served) in
    ap (λ j. slice_get (banks ++ acts) (j + n)) (sym (rows_count asks requests.banks 0 words)) ∙ get_right banks acts n
    ∙ acts_there served asks requests (length words) (services served) n k e

pub bank_there : (asks : List ℕ) (banks : BankRequests) (from : ℕ) (words : List Held) (last : List (List Row)) (n : ℕ) (h : Held) → slice_get words n ≡ Some h
    → slice_get (rows_from asks banks from words ++ last) n ≡ Some (rows_at asks banks (from + n) h.width)
bank_there asks banks from [] last n h e = absurd cc
bank_there asks banks from (g ∷ words) last zero h e =
    let same : g ≡ h = cc in
    ap (λ (z : Held). Some (rows_at asks banks from z.width)) same ∙ ap (λ k. Some (rows_at asks banks k h.width)) (let at : from ≡ from + 0 = omega arith in at)
bank_there asks banks from (g ∷ words) last (suc n) h e =
    bank_there asks banks (suc from) words last n h e ∙ ap (λ k. Some (rows_at asks banks k h.width)) (let at : suc from + n ≡ from + suc n = omega arith in at)

pub field_there : (site_width from : ℕ) (fields : List ℕ) (k x : ℕ) → slice_get fields k ≡ Some x
    → slice_get (fields_from site_width from fields) k ≡ Some (field_row (field_width site_width (from + k)) x)
field_there site_width from [] k x e = absurd cc
field_there site_width from (y ∷ fields) zero x e =
    let same : y ≡ x = cc in
    ap (λ z. Some (field_row (field_width site_width from) z)) same ∙ ap (λ k. Some (field_row (field_width site_width k) x)) (let at : from ≡ from + 0 = omega arith in at)
field_there site_width from (y ∷ fields) (suc k) x e =
    field_there site_width (suc from) fields k x e ∙ ap (λ n. Some (field_row (field_width site_width n) x)) (let at : suc from + k ≡ from + suc k = omega arith in at)
