-- What cores tell a thread, one behind the other.
use Rattle.std.proofs.Common.{◌≡◌, ℕ, zero, suc, ◌+◌, ◌-◌, ◌<◌, ◌≤◌, Bool, true, false, if◌then◌else◌, List, [], ◌∷◌, ◌++◌, length, map, take, refl, sym, ap, ◌∙◌}
use Rattle.std.proofs.Common.{arith, ⊎_elim, length-append, append_assoc}
use Rattle.std.specs.Prelude.{replicate}
use Rattle.std.proofs.lemmas.Bool.{cases_lt, le-ltb, lt-ltb}
use Rattle.std.proofs.lemmas.List.{map-append}
use Rattle.leaf_machine.specs.Leaves.{Told}
use Rattle.leaf_machine.specs.Ports.{CorePort, told_of, told_place}
use Rattle.thread_slots.specs.declared.shape.Served.{Served}
use Rattle.block_ir.specs.declared.service.Service.TheVariants.{Mutex, Barrier, ThreadIds, Printer}
use Rattle.thread_slots.specs.Services.{services, if_thread_ids, news_widths}
use Rattle.thread_layout.specs.Leaf.{told_from}
use Rattle.thread_layout.specs.Thread.{bank_port, act_port}
use Rattle.fsm_datapath.specs.SoundLeaf.{tells_of}

-- ---- places

next_place : (p : CorePort) (ports : List CorePort) (k : ℕ) → told_place (p ∷ ports) (suc k) ≡ length p.told + told_place ports k
next_place p ports k = length-append p.told (told_of (take k ports))

all_told : (p : CorePort) (ports : List CorePort) → length (told_of (p ∷ ports)) ≡ length p.told + length (told_of ports)
all_told p ports = length-append p.told (told_of ports)

-- number j that core k tells, by its place
pub told_is : (ports : List CorePort) (from k j : ℕ) → j < tells_of ports k → told_from from ports (told_place ports k + j) ≡ Told (from + k) j
told_is [] from k j part = absurd (omega arith)
told_is (p ∷ ports) from zero j part =
    let first : told_place (p ∷ ports) zero + j ≡ j = (let z : 0 + j ≡ j = omega arith in z) in
    ap (told_from from (p ∷ ports)) first ∙ ap (λ b. if b then Told from j else told_from (suc from) ports (j - length p.told)) (lt-ltb j (length p.told) part)
    ∙ ap (λ n. Told n j) (let z : from ≡ from + 0 = omega arith in z)
told_is (p ∷ ports) from (suc k) j part =
    let next = next_place p ports k in
    let at : told_place (p ∷ ports) (suc k) + j ≡ length p.told + (told_place ports k + j) = omega arith in
    let x : ℕ = length p.told + (told_place ports k + j) in
    ap (told_from from (p ∷ ports)) at
    ∙ ap (λ b. if b then Told from x else told_from (suc from) ports (x - length p.told)) (le-ltb x (length p.told) (omega arith))
    ∙ ap (told_from (suc from) ports) (let z : x - length p.told ≡ told_place ports k + j = omega arith in z)
    ∙ told_is ports (suc from) k j part ∙ ap (λ n. Told n j) (let z : suc from + k ≡ from + suc k = omega arith in z)

pub place_within : (ports : List CorePort) (k j : ℕ) → j < tells_of ports k → (k < length ports) × (told_place ports k + j < length (told_of ports))
place_within [] k j part = absurd (omega arith)
place_within (p ∷ ports) zero j part =
    let all = all_told p ports in
    let first : told_place (p ∷ ports) zero ≡ 0 = refl in
    (omega arith, omega arith)
place_within (p ∷ ports) (suc k) j part =
    let all = all_told p ports in
    let next = next_place p ports k in
    let rest = place_within ports k j part in
    let one = rest.0 in
    let two = rest.1 in
    (omega arith, omega arith)

-- each number that is told is one of some core
pub record IsToldBy (ports : List CorePort) (from x : ℕ) : Type 0 where
  pub core : ℕ
  pub part : ℕ
  pub is : told_from from ports x ≡ Told (from + core) part
  pub within : core < length ports
  pub tells : part < tells_of ports core
  pub at : x ≡ told_place ports core + part

pub told_by : (ports : List CorePort) (from x : ℕ) → x < length (told_of ports) → IsToldBy ports from x
told_by [] from x less = absurd (omega arith)
told_by (p ∷ ports) from x less =
    ⊎_elim
    (λ (here : x < length p.told).
    record {
      core = 0;
      part = x;
      is =
          ap (λ b. if b then Told from x else told_from (suc from) ports (x - length p.told)) (lt-ltb x (length p.told) here)
          ∙ ap (λ n. Told n x) (let z : from ≡ from + 0 = omega arith in z);
      within = omega arith;
      tells = here;
      at = (let z : x ≡ 0 + x = omega arith in z);
    })
    (λ (past : length p.told ≤ x).
    let all = all_told p ports in
    let rest = told_by ports (suc from) (x - length p.told) (omega arith) in
    let next = next_place p ports rest.core in
    let inner = rest.at in
    let within = rest.within in
    record {
      core = suc rest.core;
      part = rest.part;
      is =
          ap (λ b. if b then Told from x else told_from (suc from) ports (x - length p.told)) (le-ltb x (length p.told) past) ∙ rest.is
          ∙ ap (λ n. Told n rest.part) (let z : suc from + rest.core ≡ from + suc rest.core = omega arith in z);
      within = omega arith;
      tells = rest.tells;
      at = omega arith;
    })
    (cases_lt x (length p.told))

-- ---- what is told

told_then : (xs ys : List CorePort) → told_of (xs ++ ys) ≡ told_of xs ++ told_of ys
told_then [] ys = refl
told_then (x ∷ xs) ys = ap (λ l. x.told ++ l) (told_then xs ys) ∙ sym (append_assoc x.told (told_of xs) (told_of ys))

told_banks : (words : List ℕ) → told_of (map bank_port words) ≡ words
told_banks [] = refl
told_banks (w ∷ words) = ap (λ l. w ∷ l) (told_banks words)

told_mutexes : (served : Served) (n : ℕ) → told_of (map (act_port served) (replicate n Mutex)) ≡ []
told_mutexes served zero = refl
told_mutexes served (suc n) = told_mutexes served n

told_barriers : (served : Served) (n : ℕ) → told_of (map (act_port served) (replicate n Barrier)) ≡ replicate n 1
told_barriers served zero = refl
told_barriers served (suc n) = ap (λ l. 1 ∷ l) (told_barriers served n)

told_last : (served : Served) (thread_ids : Bool) → told_of (map (act_port served) (if_thread_ids thread_ids (ThreadIds ∷ []) ++ Printer ∷ [])) ≡ if_thread_ids thread_ids (1 ∷ 64 ∷ [])
told_last served true = refl
told_last served false = refl

told_acts : (served : Served) → told_of (map (act_port served) (services served)) ≡ news_widths served
told_acts served =
    let mutexes = replicate served.mutexes Mutex in
    let barriers = replicate served.barriers Barrier in
    let last = if_thread_ids served.thread_ids (ThreadIds ∷ []) ++ Printer ∷ [] in
    ap told_of (map-append (act_port served) mutexes (barriers ++ last)) ∙ told_then (map (act_port served) mutexes) (map (act_port served) (barriers ++ last))
    ∙ ap (λ l. l ++ told_of (map (act_port served) (barriers ++ last))) (told_mutexes served served.mutexes)
    ∙ ap told_of (map-append (act_port served) barriers last) ∙ told_then (map (act_port served) barriers) (map (act_port served) last)
    ∙ ap (λ l. l ++ told_of (map (act_port served) last)) (told_barriers served served.barriers)
    ∙ ap (λ l. replicate served.barriers 1 ++ l) (told_last served served.thread_ids)

-- ALL THAT IS TOLD: the words of banks, and behind them what the cores tell that acts ask
pub told_all : (words : List ℕ) (served : Served) → told_of (map bank_port words ++ map (act_port served) (services served)) ≡ words ++ news_widths served
told_all words served =
    told_then (map bank_port words) (map (act_port served) (services served))
    ∙ ap (λ l. l ++ told_of (map (act_port served) (services served))) (told_banks words) ∙ ap (λ l. words ++ l) (told_acts served)
