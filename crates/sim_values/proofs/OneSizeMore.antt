-- The sizes of one module more.
use Rattle.std.proofs.Common.{◌≡◌, ℕ, List, [], ◌∷◌, ◌++◌, refl}
use Rattle.netlist.specs.declared.netlist.Module.{Module}
use Rattle.sim_values.specs.Sizes.{module_size, sizes_behind, sizes_of}

behind_more : (sizes : List ℕ) (modules : List Module) (m : Module) → sizes_behind sizes (modules ++ m ∷ []) ≡ sizes_behind sizes modules ++ module_size (sizes_behind sizes modules) m ∷ []
behind_more sizes [] m = refl
behind_more sizes (k ∷ modules) m = behind_more (sizes ++ module_size sizes k ∷ []) modules m

pub one_size_more : (modules : List Module) (m : Module) → sizes_of (modules ++ m ∷ []) ≡ sizes_of modules ++ module_size (sizes_of modules) m ∷ []
one_size_more = behind_more []
