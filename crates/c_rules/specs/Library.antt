-- The functions that are known without an include: printf, and those of POSIX threads.
use Rattle.std.specs.Prelude.{ℕ, Bool, true, nat_eq, List, [], ◌∷◌, Option, Some, None, codes}
use Rattle.std.specs.List.{find}
use Rattle.std.specs.Str.{bytes_eq}
use Rattle.c_rules.specs.declared.library.LibraryFunction.{LibraryFunction}
use Rattle.c_rules.specs.declared.library.LibraryFunction.TheVariants.{Print, Create, Join, Exit, MutexInit, MutexDestroy, MutexLock, MutexUnlock, BarrierInit, BarrierDestroy, BarrierWait}

abbrev pub name_of : LibraryFunction → List ℕ
name_of Print = codes "printf"
name_of Create = codes "pthread_create"
name_of Join = codes "pthread_join"
name_of Exit = codes "pthread_exit"
name_of MutexInit = codes "pthread_mutex_init"
name_of MutexDestroy = codes "pthread_mutex_destroy"
name_of MutexLock = codes "pthread_mutex_lock"
name_of MutexUnlock = codes "pthread_mutex_unlock"
name_of BarrierInit = codes "pthread_barrier_init"
name_of BarrierDestroy = codes "pthread_barrier_destroy"
name_of BarrierWait = codes "pthread_barrier_wait"

abbrev pub functions : List LibraryFunction
functions =
    Print ∷ Create ∷ Join ∷ Exit ∷ MutexInit ∷ MutexDestroy ∷ MutexLock ∷ MutexUnlock ∷ BarrierInit ∷ BarrierDestroy ∷
    BarrierWait ∷ []

unfoldable pub function_named : List ℕ → Option LibraryFunction
function_named name = find (λ f. bytes_eq (name_of f) name) functions

-- how many arguments it takes; printf takes any number
abbrev pub arity : LibraryFunction → Option ℕ
arity Print = None
arity Create = Some 4
arity BarrierInit = Some 3
arity Join = Some 2
arity MutexInit = Some 2
arity function = Some 1

abbrev pub fits : Option ℕ → ℕ → Bool
fits None count = true
fits (Some n) count = nat_eq n count

-- whether it may be called with so many arguments
abbrev pub takes : LibraryFunction → ℕ → Bool
takes function count = fits (arity function) count
