-- Parts of a list of codes, and what is made of them.
use Rattle.std.specs.Prelude.{◌≡◌, List, [], ◌∷◌, ◌++◌, Result, Ok, Err}
use Rattle.std.specs.declared.alloc.AllocError.{AllocError}
use Rattle.block_ir.specs.declared.code.ThreadCode.{ThreadCode}
use Rattle.block_ir.specs.declared.plan.Planned.{Planned}
use denote.Ref.{Bor}

-- the codes of all shares
abbrev pub codes_of : List (Bor (List ThreadCode)) → List ThreadCode
codes_of [] = []
codes_of (share ∷ shares) = share.now ++ codes_of shares

-- all parts were made, and these are their plans, one part's behind the other's
abbrev pub AreJoined : List (Result (List Planned) AllocError) → List Planned → Type 0
AreJoined [] plans = plans ≡ []
AreJoined (Ok part ∷ parts) plans = (rest : List Planned) × (plans ≡ part ++ rest) × AreJoined parts rest
AreJoined (Err error ∷ parts) plans = ⊥
