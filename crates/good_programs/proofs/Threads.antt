-- Two threads under a mutex, two parted by a barrier, and two that race.
use Rattle.std.proofs.Common.{◌≡◌, [], ◌∷◌, refl, sym, subst, arith}
use Rattle.std.specs.Prelude.{true, false, Contains}
use Rattle.hls_ints.specs.Types.{wrapped}
use Rattle.hls_ints.specs.Residues.{residue_of, signed_value_of}
use Rattle.hls_ints.specs.Operators.{result_of}
use Rattle.thread_semantics.specs.Memory.{Location}
use Rattle.thread_semantics.specs.State.{State}
use Rattle.thread_semantics.specs.Step.{Stepped, Steps, after}
use Rattle.thread_semantics.specs.Races.{Touch, footprint, Races, IsGood}
use Rattle.good_programs.specs.Samples.{guarded, phased, racing}
use Rattle.good_programs.proofs.Explored.{explored, explored_is_good}

-- main takes ten steps, the thread six
guarded_explored : explored guarded 17 (after guarded []) ≡ true
unfolding wrapped residue_of signed_value_of result_of
guarded_explored = refl

pub guarded_is_good : IsGood guarded
guarded_is_good = explored_is_good guarded 17 guarded_explored

-- main takes ten steps, the thread four
phased_explored : explored phased 15 (after phased []) ≡ true
unfolding wrapped residue_of signed_value_of result_of
phased_explored = refl

pub phased_is_good : IsGood phased
phased_is_good = explored_is_good phased 15 phased_explored

-- main has created the thread
abbrev state_in : Stepped → State → State
state_in (Steps s) d = s
state_in o d = d

abbrev both_go : State
both_go = state_in (after racing (0 ∷ 0 ∷ [])) (record { globals = []; slots = []; mutexes = []; barriers = []; output = []; ended = true })

abbrev sum : Location
sum = record { variable = 0; index = 0 }

abbrev read : Touch
read = record { place = sum; written = false }

abbrev write : Touch
write = record { place = sum; written = true }

touched_by_main : footprint racing both_go 0 ≡ read ∷ write ∷ []
unfolding wrapped residue_of signed_value_of result_of
touched_by_main = refl

touched_by_thread : footprint racing both_go 1 ≡ read ∷ write ∷ []
unfolding wrapped residue_of signed_value_of result_of
touched_by_thread = refl

races : Races racing both_go 0 1 sum
races = record {
  apart = λ e. absurd cc;
  first = read;
  second = write;
  first_in = subst (λ touches. Contains touches read) (sym touched_by_main) (0, (omega arith), refl);
  second_in = subst (λ touches. Contains touches write) (sym touched_by_thread) (1, (omega arith), refl);
  first_place = refl;
  second_place = refl;
  written = refl;
}

pub racing_is_not_good : IsGood racing → ⊥
racing_is_not_good good = good.calm (0 ∷ 0 ∷ []) both_go 0 1 sum refl refl races
