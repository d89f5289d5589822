-- What becomes of the parts of a statement, and then of the statement.
use Rattle.std.proofs.Common.{◌≡◌, List, [], ◌∷◌, drop, Option, Some, None, refl, ap, ◌∙◌}
use Rattle.c_program.specs.Tree.{Statement}
use Rattle.thread_semantics.specs.Work.{Work, Next, Turn, Loop, Going, in_loop, while_loop, for_loop, opened, asked, next_turn, settled}
use Rattle.c_evaluation.specs.declared.work.Going.{Going as GoingCode}
use Rattle.c_evaluation.specs.declared.work.Item.{Item}
use Rattle.c_evaluation.specs.View.{work_of}
use Rattle.c_evaluation.specs.Opened.{going_of, IsOpened, IsPassed}

abbrev pub Opens : Type 0
Opens = (Going → List Work) → List Work

-- the item that waited is taken off
pub without_item : (opens : Opens) (item : Work) (old mid new : List Work) (g : GoingCode) → IsOpened opens (item ∷ old) mid (Some g) → new ≡ drop 1 mid →
    IsOpened opens old new (Some g)
without_item opens item old mid new g h e = (e ∙ ap (drop 1) h.0, h.1)

pub same_opens : (opens more : Opens) (old new : List Work) (g : Option GoingCode) → ((rest : Going → List Work) → opens rest ≡ more rest) → IsOpened more old new g →
    IsOpened opens old new g
same_opens opens more old new None e h = λ rest. e rest ∙ h rest
same_opens opens more old new (Some g) e h = (h.0, λ rest. e rest ∙ h.1 rest)

-- work that is gone through begins with what is opened
pub opened_passes : (g : GoingCode) (work old new : List Work) (opens : Opens) (next : Option GoingCode) → settled (going_of g) work ≡ opens (λ h. settled h old) →
    IsOpened opens old new next → IsPassed g work old new next
opened_passes g work old new opens None e h = e ∙ h (λ x. settled x old)
opened_passes g work old new opens (Some next) e h = (h.0, e ∙ h.1 (λ x. settled x old))

-- the items behind the first
pub later_items : (items : List Item) → work_of (drop 1 items) ≡ drop 1 (work_of items)
later_items [] = refl
later_items (x ∷ xs) = refl

-- the body of a do, and its condition where nothing of the body takes a step
abbrev do_opens : Loop → List Work → Opens
do_opens loop k rest = opened loop.body (Next loop ∷ k) (λ g. in_loop g (asked loop k rest) rest)

pub do_arm : (statement body condition : Statement) (old new : List Work) (g : Option GoingCode) → statement ≡ Statement.DoWhile body condition →
    IsOpened (do_opens (while_loop condition body) old) old new g → IsOpened (opened statement old) old new g
do_arm statement body condition old new g e h =
    same_opens (opened statement old) (do_opens (while_loop condition body) old) old new g (λ rest. ap (λ s. opened s old rest) e) h

-- what stands before a loop, and its condition where nothing of that takes a step
abbrev for_opens : Loop → Statement → List Work → Opens
for_opens loop first k = opened (Statement.Sequence first loop.condition) (Turn loop ∷ k)

pub for_arm : (statement first other condition last body : Statement) (old new : List Work) (g : Option GoingCode) → statement ≡ Statement.For first condition last body →
    first ≡ other → IsOpened (for_opens (for_loop condition last body) other old) old new g → IsOpened (opened statement old) old new g
for_arm statement first other condition last body old new g e same h =
    let loop = for_loop condition last body in
    same_opens (opened statement old) (for_opens loop other old) old new g
    (λ rest. ap (λ s. opened s old rest) e ∙ ap (λ s. for_opens loop s old rest) same) h

pub turn_opened : (loop : Loop) (last : Statement) (old new : List Work) (g : Option GoingCode) → loop.last ≡ last → IsOpened (for_opens loop last old) old new g →
    IsOpened (next_turn loop old) old new g
turn_opened loop last old new g e h =
    same_opens (next_turn loop old) (for_opens loop last old) old new g (λ rest. ap (λ s. for_opens loop s old rest) e) h
