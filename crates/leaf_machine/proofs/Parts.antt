-- Where parts of asks stand.
use Rattle.std.proofs.Common.{◌≡◌, zero, suc, ◌+◌, ◌<◌, [], ◌∷◌, ◌++◌, length, take, slice_get, refl, ap, ◌∙◌, arith, length-append}
use Rattle.lists.proofs.Places.{get_right, get_left}
use Rattle.leaf_machine.specs.Ports.{CorePort, asks_of, ask_place, PartsStand}

pub parts_there : PartsStand
parts_there [] k j p e less = absurd cc
parts_there (q ∷ ports) zero j p e less =
    let same : q ≡ p = cc in
    let within : j < length q.asks = (let one : length q.asks ≡ length p.asks = ap (λ (z : CorePort). length z.asks) same in omega arith) in
    let none : ask_place (q ∷ ports) zero ≡ 0 = refl in
    let at : ask_place (q ∷ ports) zero + j ≡ j = omega arith in
    ap (slice_get (q.asks ++ asks_of ports)) at ∙ get_left q.asks (asks_of ports) j within ∙ ap (λ (z : CorePort). slice_get z.asks j) same
parts_there (q ∷ ports) (suc k) j p e less =
    let next : ask_place (q ∷ ports) (suc k) ≡ length q.asks + ask_place ports k = length-append q.asks (asks_of (take k ports)) in
    let at : ask_place (q ∷ ports) (suc k) + j ≡ length q.asks + (ask_place ports k + j) = omega arith in
    ap (slice_get (q.asks ++ asks_of ports)) at ∙ get_right q.asks (asks_of ports) (ask_place ports k + j) ∙ parts_there ports k j p e less
