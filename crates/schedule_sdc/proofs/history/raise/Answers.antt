use Rattle.std.proofs.Common.{◌≡◌, ◌<◌, ◌+◌, ◌++◌, ◌∷◌, [], length, arith, rules, refl, pos, ◌+ℤ◌, ◌∙◌}
use Rattle.std.proofs.lemmas.Int.{ints}
use Rattle.schedule_sdc.proofs.Pushed.{all_read, rose_sound, rose_change, step_to}
use Rattle.schedule_sdc.proofs.history.raise.Goals as goal

pub later_start-requires : goal.later_start-requires
later_start-requires c =
    let r = all_read _ _ _ _ _ c.requires.sound c.requires.shallow _ c.requires.listed c.requires.places _ c.index-before.ensures _ c.index-from.ensures _ c.index.ensures in
    r.from_small (search rules)

pub returns-in_default-clause-change : goal.returns-in_default-clause-change
returns-in_default-clause-change c =
    let r = all_read _ _ _ _ _ c.requires.sound c.requires.shallow _ c.requires.listed c.requires.places _ c.index-before.ensures _ c.index-from.ensures _ c.index.ensures in
    let s = r.start_is in
    let t = r.to_is in
    (refl, omega (arith, ints, c.in_default.ensures.later, s, t), c.requires.shallow)

pub overflow_add-from : goal.overflow_add-from
overflow_add-from c =
    let r = all_read _ _ _ _ _ c.requires.sound c.requires.shallow _ c.requires.listed c.requires.places _ c.index-before.ensures _ c.index-from.ensures _ c.index.ensures in
    let d = r.depth in
    search (rules, d)

pub overflow_add-from-2 : goal.overflow_add-from-2
overflow_add-from-2 c =
    let r = all_read _ _ _ _ _ c.requires.sound c.requires.shallow _ c.requires.listed c.requires.places _ c.index-before.ensures _ c.index-from.ensures _ c.index.ensures in
    let d = r.depth in
    search (rules, d)

pub returns-then-from-places-clause-sound : goal.returns-then-from-places-clause-sound
returns-then-from-places-clause-sound c =
    let r = all_read _ _ _ _ _ c.requires.sound c.requires.shallow _ c.requires.listed c.requires.places _ c.index-before.ensures _ c.index-from.ensures _ c.index.ensures in
    let lt : c.index.result.now < c.in-Some.start = omega (arith, c.in-Some.ensures.later) in
    let top : c.len-top.result ≡ length c.args.steps.now.items = c.len-top.ensures ∙ c.args.steps.now.ok.0 in
    let pushed = step_to c.args.c.now.to c.index-before.result.now (c.index-from.result.now.depth + 1) c.in-Some.start in
    let items : c.push.new.self.items ≡ c.args.steps.now.items ++ pushed ∷ [] = c.in_ok-push.ensures.items in
    let sum : pos c.index-from.result.now.start +ℤ c.args.c.now.gap ≡ pos c.in-Some.start = omega (arith, ints, c.in-Some.ensures.later) in
    rose_sound _ _ _ _ _ c.requires.sound c.requires.shallow _ c.requires.listed _ _ _ r _ _ _ lt c.in-Some.ensures.near sum top items

pub returns-else-from-places-clause-sound : goal.returns-else-from-places-clause-sound
returns-else-from-places-clause-sound c =
    let r = all_read _ _ _ _ _ c.requires.sound c.requires.shallow _ c.requires.listed c.requires.places _ c.index-before.ensures _ c.index-from.ensures _ c.index.ensures in
    let lt : c.index.result.now < c.in-Some.start = omega (arith, c.in-Some.ensures.later) in
    let top : c.len-top.result ≡ length c.args.steps.now.items = c.len-top.ensures ∙ c.args.steps.now.ok.0 in
    let pushed = step_to c.args.c.now.to c.index-before.result.now (c.index-from.result.now.depth + 1) c.in-Some.start in
    let items : c.push.new.self.items ≡ c.args.steps.now.items ++ pushed ∷ [] = c.in_ok-push.ensures.items in
    let sum : pos c.index-from.result.now.start +ℤ c.args.c.now.gap ≡ pos c.in-Some.start = omega (arith, ints, c.in-Some.ensures.later) in
    rose_sound _ _ _ _ _ c.requires.sound c.requires.shallow _ c.requires.listed _ _ _ r _ _ _ lt c.in-Some.ensures.near sum top items

pub returns-else-from-places-clause-change : goal.returns-else-from-places-clause-change
returns-else-from-places-clause-change c =
    let r = all_read _ _ _ _ _ c.requires.sound c.requires.shallow _ c.requires.listed c.requires.places _ c.index-before.ensures _ c.index-from.ensures _ c.index.ensures in
    let lt : c.index.result.now < c.in-Some.start = omega (arith, c.in-Some.ensures.later) in
    let top : c.len-top.result ≡ length c.args.steps.now.items = c.len-top.ensures ∙ c.args.steps.now.ok.0 in
    let pushed = step_to c.args.c.now.to c.index-before.result.now (c.index-from.result.now.depth + 1) c.in-Some.start in
    let items : c.push.new.self.items ≡ c.args.steps.now.items ++ pushed ∷ [] = c.in_ok-push.ensures.items in
    let sum : pos c.index-from.result.now.start +ℤ c.args.c.now.gap ≡ pos c.in-Some.start = omega (arith, ints, c.in-Some.ensures.later) in
    let d : c.index-from.result.now.depth + 1 < length c.args.starts.now.items = omega (arith, r.depth) in
    rose_change _ _ _ _ _ c.requires.sound c.requires.shallow _ c.requires.listed _ _ _ r _ _ _ lt c.in-Some.ensures.near sum top items d

pub returns-in_default-clause-sound : goal.returns-in_default-clause-sound
returns-in_default-clause-sound c = c.requires.sound
