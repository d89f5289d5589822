-- What the items of a work list stand for.
use Rattle.std.specs.Prelude.{List, map, Option, Some, None, Box}
use Rattle.std.specs.Borrow.{Bor}
use Rattle.std.specs.declared.alloc.Global.{Global}
use Rattle.c_program.specs.declared.tree.Statement.{Statement as StatementTree}
use Rattle.c_program.specs.Tree.{Statement}
use Rattle.c_program.specs.Plain.{pieces_of, statement_of, boxed_statement_of}
use Rattle.thread_semantics.specs.Work.{Loop, Act, Print, Create, Join, MutexInit, MutexDestroy, MutexLock, MutexUnlock, BarrierInit, BarrierDestroy, BarrierWait}
use Rattle.thread_semantics.specs.Work.{Work, Do, ThenBoth, ThenEither, ThenOpposite, Choose, Turn, Note, Next, Past, Take, Perform}
use Rattle.c_evaluation.specs.declared.work.Loop.{Loop as LoopItem}
use Rattle.c_evaluation.specs.declared.work.Act.{Act as ActItem}
use Rattle.c_evaluation.specs.declared.work.Act.TheVariants as act
use Rattle.c_evaluation.specs.declared.work.Item.{Item}
use Rattle.c_evaluation.specs.declared.work.Item.TheVariants as item

abbrev pub last_of : Option (Bor (Box StatementTree Global)) → Statement
last_of None = Statement.Done
last_of (Some last) = boxed_statement_of last.now

abbrev pub loop_of : LoopItem → Loop
loop_of looping = record { condition = boxed_statement_of looping.condition.now; last = last_of looping.last; body = boxed_statement_of looping.body.now }

abbrev pub act_of : ActItem → Act
act_of (act.Print format) = Print (pieces_of format.now)
act_of (act.Create routine) = Create routine
act_of act.Join = Join
act_of act.MutexInit = MutexInit
act_of act.MutexDestroy = MutexDestroy
act_of act.MutexLock = MutexLock
act_of act.MutexUnlock = MutexUnlock
act_of act.BarrierInit = BarrierInit
act_of act.BarrierDestroy = BarrierDestroy
act_of act.BarrierWait = BarrierWait

abbrev pub item_of : Item → Work
item_of (item.Do statement) = Do (statement_of statement.now)
item_of (item.ThenBoth second) = ThenBoth (boxed_statement_of second.now)
item_of (item.ThenEither second) = ThenEither (boxed_statement_of second.now)
item_of item.ThenOpposite = ThenOpposite
item_of (item.Choose consequent alternative) = Choose (boxed_statement_of consequent.now) (boxed_statement_of alternative.now)
item_of (item.Turn looping) = Turn (loop_of looping)
item_of (item.Note slot) = Note slot
item_of (item.Next looping) = Next (loop_of looping)
item_of item.Past = Past
item_of (item.Take into) = Take into
item_of (item.Perform offset a) = Perform offset (act_of a)

abbrev pub work_of : List Item → List Work
work_of items = map item_of items
