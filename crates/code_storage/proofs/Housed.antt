-- The rooms that the functions are given are a housing.
use Rattle.std.proofs.Common.{◌≡◌, ℕ, zero, suc, ◌+◌, ◌*◌, List, [], ◌∷◌, length, Option, Some, None, refl, sym, ap, ◌∙◌, subst, arith}
use Rattle.std.specs.Prelude.{slice_get}
use Rattle.std.specs.List.{AllByRecursion}
use Rattle.c_program.specs.declared.tree.LocalVariable.{LocalVariable}
use Rattle.c_program.specs.Tree.{Function, Program}
use Rattle.c_program.specs.Limits.{local_elements, print_sites}
use Rattle.c_program.specs.Weight.{function_weight}
use Rattle.c_program.specs.Resolved.{IsResolved}
use Rattle.code_following.specs.Typed.{IsNameIfAny}
use Rattle.code_blocks.specs.declared.fault.LoweringFault.{LoweringFault}
use Rattle.code_blocks.specs.declared.homes.Home.{Home}
use Rattle.code_blocks.specs.declared.homes.Home.TheVariants.{Variable, Array}
use Rattle.code_blocks.specs.Typing.{IsTypedHome}
use Rattle.code_blocks.specs.Room.{IsFull}
use Rattle.code_blocks.proofs.Room.{full_more}
use Rattle.code_storage.specs.declared.rooms.Rooms.{Rooms}
use Rattle.code_storage.specs.Formats.{HasSites}
use Rattle.code_storage.specs.Locals.{all_locals, rooms_after, ArePlaced, prints}
use Rattle.code_storage.specs.Names.{variable_names}
use Rattle.code_storage.specs.Reaching.{marks_of, kept, reached_functions}
use Rattle.code_storage.specs.Housing.{AreHomes, homes_there, homes_in, site_there, Runs, types_in, IsHousing, AreNames}
use Rattle.code_storage.proofs.LocalArrays.{array_local}
use Rattle.code_storage.proofs.LocalHomes.{IsDeclaredHome}
use Rattle.code_storage.proofs.Names.{names_count, names_are, named_in_rooms}
use Rattle.code_storage.proofs.Reached.{runs_marked, locals_few}
use Rattle.code_storage.proofs.FunctionRooms.{kept_at, variables_of_rooms, arrays_of_rooms, room_homes, room_count, room_declared, room_sites}
use Rattle.code_storage.proofs.RoomsFull.{homed_length}

module _ (P : Program) (root : ℕ) (resolved : IsResolved P) (H : Rooms) (placed : ArePlaced (reached_functions P root) H) where
  abbrev functions : List Function
  functions = reached_functions P root

  homes_are : (g : ℕ) → homes_in H g ≡ homes_there (slice_get (rooms_after [] 0 functions) g)
  homes_are g = ap (λ rs. homes_there (slice_get rs g)) placed.rooms

  home_at : (g x : ℕ) (h : Home) → slice_get (homes_in H g) x ≡ Some h → slice_get (homes_there (slice_get (rooms_after [] 0 functions) g)) x ≡ Some h
  home_at g x h e = ap (λ hs. slice_get hs x) (sym (homes_are g)) ∙ e

  home_typed : (l : LocalVariable) (o : Option Home) → IsDeclaredHome (all_locals functions) l o → IsTypedHome (types_in H) l o
  home_typed l None h = absurd h
  home_typed l (Some (Variable n)) h = ap (λ ts. slice_get ts n) placed.houses.variables ∙ h
  home_typed l (Some (Array a)) h = ap (λ arrays. slice_get arrays a) placed.houses.arrays ∙ h

  pub housed : IsHousing P root H
  housed = record {
    homes = λ g f runs at.
        subst (λ hs. AreHomes f.locals hs (length H.variables)) (sym (homes_are g))
        (subst (AreHomes f.locals (homes_there (slice_get (rooms_after [] 0 functions) g))) (sym (ap length placed.houses.variables))
        (room_homes P (marks_of P.functions root) g f at (runs_marked P root g f resolved runs at)));
    count = λ g f runs at. ap length (homes_are g) ∙ room_count P (marks_of P.functions root) g f at (runs_marked P root g f resolved runs at);
    types = λ g x f l runs at here.
        home_typed l (slice_get (homes_in H g) x)
        (subst (λ hs. IsDeclaredHome (all_locals functions) l (slice_get hs x)) (sym (homes_are g))
        (room_declared P (marks_of P.functions root) g f at (runs_marked P root g f resolved runs at) x l here));
    variables_apart = λ g h x y n e q. variables_of_rooms [] 0 functions g h x y n (home_at g x (Variable n) e) (home_at h y (Variable n) q);
    arrays_apart = λ g h x y a e q. arrays_of_rooms [] 0 functions g h x y a (home_at g x (Array a) e) (home_at h y (Array a) q);
    sites = λ g f at. subst (HasSites P f.body) (sym (ap (λ rs. site_there (slice_get rs g)) placed.rooms)) (room_sites P (marks_of P.functions root) g f at);
    few = (let all = homed_length (all_locals functions) H placed.houses in let few = locals_few P root resolved in omega (arith, all, few));
    arrays = λ a array e. array_local P (marks_of P.functions root) a array (ap (λ l. slice_get l a) (sym placed.houses.arrays) ∙ e);
  }

  pub named : (names : List (List ℕ)) → names ≡ variable_names functions → AreNames P root H names
  named names are = record {
    count = ap length are ∙ names_count functions ∙ sym (ap length placed.houses.variables);
    each = subst (AllByRecursion IsNameIfAny) (sym are) (names_are functions);
    local = λ g x n f runs at e.
        let marked = runs_marked P root g f resolved runs at in
        ap (λ l. slice_get l n) are
        ∙ named_in_rooms [] 0 functions g x n n f (kept_at (marks_of P.functions root) P.functions g f at ∙ ap (λ b. Some (kept b f)) marked) (home_at g x (Variable n) e) (omega arith);
  }

pub housed_full : (P : Program) (root : ℕ) (fault : LoweringFault) → IsFull (length (all_locals (reached_functions P root)) + prints P.functions) fault → IsResolved P →
    IsFull (local_elements P.functions root + 3 * function_weight P.functions root + print_sites P) fault
housed_full P root fault full resolved =
    let few = locals_few P root resolved in
    full_more fault (length (all_locals (reached_functions P root)) + prints P.functions) (local_elements P.functions root + 3 * function_weight P.functions root + print_sites P) (omega (arith, few)) full

-- a home is a local's
pub local_there : (P : Program) (r : ℕ) (H : Rooms) → IsHousing P r H → (g : ℕ) (f : Function) → Runs P r g → slice_get P.functions g ≡ Some f → (x : ℕ) (h : Home) →
    slice_get (homes_in H g) x ≡ Some h → (l : LocalVariable) × (slice_get f.locals x ≡ Some l)
local_there P r H housed g f runs at x h e = among (homes_in H g) f.locals x h (housed.count g f runs at) e
  where
    among : (hs : List Home) (ls : List LocalVariable) (y : ℕ) (k : Home) → length hs ≡ length ls → slice_get hs y ≡ Some k → (l : LocalVariable) × (slice_get ls y ≡ Some l)
    among [] ls y k long found = absurd cc
    among (z ∷ hs) [] y k long found = absurd (omega arith)
    among (z ∷ hs) (l ∷ ls) zero k long found = (l, refl)
    among (z ∷ hs) (l ∷ ls) (suc y) k long found = among hs ls y k (omega arith) found
