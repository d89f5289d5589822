-- Chains that grow.
use Rattle.std.proofs.Common.{◌≡◌, ◌≢◌, ℕ, zero, suc, ◌+◌, ◌<◌, ◌≤◌, List, [], ◌∷◌, length, Option, Some, refl, sym, ap, ◌∙◌, subst, ⊎_elim, arith}
use Rattle.std.specs.Prelude.{slice_get, slice_set, Result, Ok, Err, OnOk}
use Rattle.std.proofs.lemmas.Bool.Decides.{eqb_tells}
use Rattle.std.proofs.lemmas.List.{set-set, length-set}
use Rattle.std.proofs.lemmas.Option.{slice_get_within}
use Rattle.lists.proofs.Places.{set_other, set_same}
use Rattle.block_ir.specs.declared.operand.Operand.{Operand}
use Rattle.block_ir.specs.declared.block.Final.{Final}
use Rattle.block_ir.specs.declared.block.Block.{Block}
use Rattle.block_ir.specs.declared.code.Stage.{Stage}
use Rattle.block_ir.specs.declared.code.Stage.TheVariants.{Run}
use Rattle.code_blocks.specs.declared.open_block.OpenBlock.{OpenBlock}
use Rattle.code_blocks.specs.Closing.{IsFresh, HasNoted}
use Rattle.code_merge.specs.declared.merger.Merger.{Merger}
use Rattle.code_merge.specs.Joined.{joined, HasLeft}
use Rattle.code_merge.specs.Maximal.{IsMaximalAt, AreCounted, Follows}
use Rattle.code_merge.specs.Kept.{Keeps}
use Rattle.code_merge.specs.Used.{empty}
use Rattle.code_merge.specs.Steps.{block_in, IsLast, HoldsAt, IsReady, IsBlock, Begins, Joins, Merges, Grows, Tidies, Extends}
use Rattle.code_merge.proofs.MergedCode.{tidy, keeps_same, keeps_both, both, both_counted, both_maximal}
use Rattle.code_merge.proofs.MergedCode.{both_keep, tidied, tidied_counted, tidied_maximal, tidied_keep, last_maximal}

same_run : (x y : Block) → Some (Run x) ≡ Some (Run y) → x ≡ y
same_run x y e = cc

pub merges_same : (m : Merger) → Merges m m
merges_same m = record { keeps = keeps_same m.most (length m.held.current) m.stages.items; size = refl; count = refl; most = refl }

pub merges_both : (a b c : Merger) → Merges a b → Merges b c → Merges a c
merges_both a b c h k = record {
  keeps =
      keeps_both a.most (length a.held.current) a.stages.items b.stages.items c.stages.items h.keeps
      (subst (λ n. Keeps n (length a.held.current) b.stages.items c.stages.items) h.most (subst (λ n. Keeps b.most n b.stages.items c.stages.items) h.size k.keeps));
  size = k.size ∙ h.size;
  count = k.count ∙ h.count;
  most = k.most ∙ h.most;
}

pub grows_same : (m : Merger) (l : ℕ) → AreCounted m.stages.items m.counts → Grows m m l
grows_same m l counted = record { merges = merges_same m; counted = counted; others = λ k off was. was }

pub grows_both : (a b c : Merger) (l : ℕ) → Grows a b l → Grows b c l → Grows a c l
grows_both a b c l h k = record {
  merges = merges_both a b c h.merges k.merges;
  counted = k.counted;
  others = λ i off was.
      subst (λ n. IsMaximalAt n c.stages.items i) h.merges.most (k.others i off (subst (λ n. IsMaximalAt n b.stages.items i) (sym h.merges.most) (h.others i off was)));
}

module _ (old new : Merger) (l m : ℕ) (counted : AreCounted old.stages.items old.counts) (f : Follows old.most old.stages.items old.counts l m) (holds : HoldsAt old l)
    (j : Joins old new l m f.block f.next) where
  abbrev all : List Stage
  all = both old.most (length old.held.current) old.stages.items old.counts l m old.held.current f counted

  abbrev one : Block
  one = joined old.held.current f.block f.next

  pub join_grows : Grows old new l
  join_grows = record {
    merges = record {
      keeps =
          subst (λ ss. Keeps old.most (length old.held.current) old.stages.items ss) (sym j.stages)
          (both_keep old.most (length old.held.current) old.stages.items old.counts l m old.held.current f counted refl (holds.left f.block f.at));
      size = j.size;
      count = ap length j.stages ∙ length-set (slice_set old.stages.items m empty) l (Run one) ∙ length-set old.stages.items m empty;
      most = j.most;
    };
    counted =
        subst (λ ss. AreCounted ss new.counts) (sym j.stages)
        (subst (λ cs. AreCounted all cs) (sym j.counts) (both_counted old.most (length old.held.current) old.stages.items old.counts l m old.held.current f counted));
    others = λ k off was.
        subst (λ ss. IsMaximalAt old.most ss k) (sym j.stages) (both_maximal old.most (length old.held.current) old.stages.items old.counts l m old.held.current f
        counted k off was);
  }

  here : slice_get new.stages.items l ≡ Some (Run one)
  here =
      ap (λ ss. slice_get ss l) j.stages
      ∙ set_same (slice_set old.stages.items m empty) l (Run one) (let w = slice_get_within old.stages.items l (Run f.block) f.at in let e = length-set old.stages.items m empty
      in omega (arith, w, e))

  pub join_block : IsBlock new l
  join_block = (one, here)

  pub join_holds : HoldsAt new l
  join_holds = record {
    left = λ b e. subst (λ (z : Block). HasLeft new.held.current z.finals) (same_run one b (sym here ∙ e)) (j.left (holds.left f.block f.at));
    noted = j.noted holds.noted;
  }

module _ (old new : Merger) (l : ℕ) (counted : AreCounted old.stages.items old.counts) (holds : HoldsAt old l) (block : IsBlock old l)
    (last : IsLast old.most old.stages.items old.counts l) (t : Tidies old new l) where
  abbrev after : List Stage
  after = tidied old.most (length old.held.current) old.stages.items l old.held.current block.0 t.finals block.1

  stages_are : new.stages.items ≡ after
  stages_are = t.stages block.0 block.1

  finish_grows : Grows old new l
  finish_grows = record {
    merges = record {
      keeps =
          subst (λ ss. Keeps old.most (length old.held.current) old.stages.items ss) (sym stages_are)
          (tidied_keep old.most (length old.held.current) old.stages.items l old.held.current block.0 t.finals block.1 refl (holds.left block.0 block.1) t.from t.leave);
      size = t.fresh.size;
      count = ap length stages_are ∙ length-set old.stages.items l _;
      most = t.most;
    };
    counted =
        subst (λ ss. AreCounted ss new.counts) (sym stages_are)
        (subst (λ cs. AreCounted after cs) (sym t.counts) (tidied_counted old.most (length old.held.current) old.stages.items l old.held.current block.0 t.finals
        block.1 old.counts counted));
    others = λ k off was.
        subst (λ ss. IsMaximalAt old.most ss k) (sym stages_are) (tidied_maximal old.most (length old.held.current) old.stages.items l old.held.current block.0 t.finals
        block.1 k was);
  }

  pub finish_extends : Extends old new l
  finish_extends = record {
    grows = finish_grows;
    ready = record {
      noted = λ x o e. absurd (t.fresh.current x o e);
      counted = finish_grows.counted;
      fresh = subst (λ n. IsFresh n new.held) (sym t.fresh.size) t.fresh;
    };
    last =
        subst (λ ss. IsMaximalAt old.most ss l) (sym stages_are)
        (tidied_maximal old.most (length old.held.current) old.stages.items l old.held.current block.0 t.finals block.1 l
        (last_maximal old.most old.stages.items old.counts l counted last));
  }

pub extends_after : (a b c : Merger) (l : ℕ) → Grows a b l → Extends b c l → Extends a c l
extends_after a b c l h k = record {
  grows = grows_both a b c l h k.grows;
  ready = k.ready;
  last = subst (λ n. IsMaximalAt n c.stages.items l) h.merges.most k.last;
}

pub extends_none : (m : Merger) (l : ℕ) → IsReady m → IsLast m.most m.stages.items m.counts l → Extends m m l
extends_none m l ready last = record {
  grows = grows_same m l ready.counted;
  ready = ready;
  last = last_maximal m.most m.stages.items m.counts l ready.counted last;
}

module _ (old new : Merger) (l : ℕ) (ready : IsReady old) (b : Begins old new l) where
  stages_same : new.stages.items ≡ old.stages.items
  stages_same = ap (λ (z : Merger). z.stages.items) b.same

  counts_same : new.counts ≡ old.counts
  counts_same = ap (λ (z : Merger). z.counts) b.same

  pub begin_grows : Grows old new l
  begin_grows = record {
    merges = record {
      keeps = subst (λ ss. Keeps old.most (length old.held.current) old.stages.items ss) (sym stages_same) (keeps_same old.most (length old.held.current) old.stages.items);
      size = b.size;
      count = ap length stages_same;
      most = ap (λ (z : Merger). z.most) b.same;
    };
    counted = subst (λ ss. AreCounted ss new.counts) (sym stages_same) (subst (λ cs. AreCounted old.stages.items cs) (sym counts_same) ready.counted);
    others = λ k off was. subst (λ ss. IsMaximalAt old.most ss k) (sym stages_same) was;
  }

-- a measure: the sum
abbrev pub total : List ℕ → ℕ
total [] = 0
total (x ∷ xs) = x + total xs

pub sum_less : (xs : List ℕ) (i : ℕ) → slice_get xs i ≡ Some 1 → total (slice_set xs i 0) < total xs
sum_less [] i e = cc
sum_less (x ∷ xs) zero e = let h : x ≡ 1 = cc in omega (arith, h)
sum_less (x ∷ xs) (suc i) e = let h = sum_less xs i e in omega (arith, h)

-- ---- all chains, in turn

pub all_next : (fn_ a b : Merger) (n : ℕ) → Merges fn_ a → Extends a b n → ((k : ℕ) → k < n → IsMaximalAt fn_.most a.stages.items k) → (k : ℕ) → k < n + 1 →
    IsMaximalAt fn_.most b.stages.items k
all_next fn_ a b n h e was k lt =
    ⊎_elim
    (λ t. subst (λ i. IsMaximalAt fn_.most b.stages.items i) (sym t.1) (subst (λ m. IsMaximalAt m b.stages.items n) h.most e.last))
    (λ t. subst (λ m. IsMaximalAt m b.stages.items k) h.most
    (e.grows.others k t.1 (subst (λ m. IsMaximalAt m a.stages.items k) (sym h.most) (was k (let apart = t.1 in omega (arith, lt, apart))))))
    (eqb_tells k n)

pub all_done : (fn_ a : Merger) (n : ℕ) → length fn_.stages.items ≤ n → Merges fn_ a → ((k : ℕ) → k < n → IsMaximalAt fn_.most a.stages.items k) → (k : ℕ) →
    IsMaximalAt fn_.most a.stages.items k
all_done fn_ a n le h was k b d m at leads there =
    was k (let w = slice_get_within a.stages.items k (Run b) at in let c = h.count in omega (arith, w, c, le)) b d m at leads there

-- ---- what the methods do

pub begin_left : (stages : List Stage) (l : ℕ) (block : Block) (now : List (Option Operand)) → Some block ≡ block_in (slice_get stages l) → HasLeft now block.finals →
    (b : Block) → slice_get stages l ≡ Some (Run b) → HasLeft now b.finals
begin_left stages l block now is left b e = subst (λ (z : Block). HasLeft now z.finals) (let h : Some block ≡ Some b = is ∙ ap block_in e in let g : block ≡ b = cc in g) left

pub same_block : (stages : List Stage) (l : ℕ) (s : Stage) (x b : Block) → slice_get stages l ≡ Some s → s ≡ Run x → slice_get stages l ≡ Some (Run b) → b ≡ x
same_block stages l s x b at is e = same_run b x (sym e ∙ at ∙ ap Some is)

pub join_joins : (old new : Merger) (l m : ℕ) (x y both_ : Block) (s t : Stage) (one two : List Stage) (held : OpenBlock) → m ≢ l →
    slice_get old.stages.items m ≡ Some t → t ≡ Run y → one ≡ slice_set old.stages.items m empty → slice_get one l ≡ Some s → s ≡ Run x → two ≡ slice_set one l empty →
    new.stages.items ≡ slice_set two l (Run both_) → held ≡ old.held → both_ ≡ joined held.current x y → new.counts ≡ slice_set old.counts m 0 →
    (HasLeft held.current x.finals → HasLeft new.held.current both_.finals) → (HasNoted held → HasNoted new.held) → length new.held.current ≡ length held.current →
    new.most ≡ old.most →
    (b d : Block) → slice_get old.stages.items l ≡ Some (Run b) → slice_get old.stages.items m ≡ Some (Run d) → Joins old new l m b d
join_joins old new l m x y both_ s t one two held apart second second_is one_is first first_is two_is new_is held_is is counts left noted size most b d at there =
    let at_one : slice_get one l ≡ Some (Run b) = ap (λ ss. slice_get ss l) one_is ∙ set_other old.stages.items m l empty (λ e. apart (sym e)) ∙ at in
    let eb : b ≡ x = same_block one l s x b first first_is at_one in
    let ed : d ≡ y = same_block old.stages.items m t y d second second_is there in
    let j : both_ ≡ joined old.held.current b d =
    is ∙ ap (λ (h : OpenBlock). joined h.current x y) held_is ∙ ap (λ (z : Block). joined old.held.current z y) (sym eb) ∙ ap (joined old.held.current b) (sym ed) in
    record {
      stages =
          new_is ∙ ap (λ ss. slice_set ss l (Run both_)) two_is ∙ set-set one l empty (Run both_) ∙ ap (λ ss. slice_set ss l (Run both_)) one_is
          ∙ ap (λ z. slice_set (slice_set old.stages.items m empty) l (Run z)) j;
      counts = counts;
      left = λ h.
          subst (λ (z : Block). HasLeft new.held.current z.finals) j
          (left (subst (λ (z : Block). HasLeft held.current z.finals) eb (subst (λ (o : OpenBlock). HasLeft o.current b.finals) (sym held_is) h)));
      noted = λ h. noted (subst HasNoted (sym held_is) h);
      size = size ∙ ap (λ (h : OpenBlock). length h.current) held_is;
      most = most;
    }

pub tidied_stages : (old two : List Stage) (l : ℕ) (s : Stage) (x b : Block) (finals : List Final) → slice_get old l ≡ Some s → s ≡ Run x → two ≡ slice_set old l empty →
    slice_get old l ≡ Some (Run b) →
    slice_set two l (Run (tidy x finals)) ≡ slice_set old l (Run (tidy b finals))
tidied_stages old two l s x b finals first is two_is at =
    ap (λ ss. slice_set ss l (Run (tidy x finals))) two_is ∙ set-set old l empty (Run (tidy x finals)) ∙ ap (λ (z : Block). slice_set old l (Run (tidy z finals)))
    (sym (same_block old l s x b first is at))

pub merged_keeps : (a b c : Merger) (stages : List Stage) (n : ℕ) → a.stages.items ≡ stages → length a.held.current ≡ n → Merges a b → Merges b c →
    Keeps a.most n stages c.stages.items
merged_keeps a b c stages n same size h k =
    subst (λ ss. Keeps a.most n ss c.stages.items) same (subst (λ i. Keeps a.most i a.stages.items c.stages.items) size (merges_both a b c h k).keeps)

pub on_ok_three : {T E A B C Q : Type 0} (r : Result T E) → (A → B → C → Q) → OnOk r A → OnOk r B → OnOk r C → OnOk r Q
on_ok_three (Ok x) f a b c = f a b c
on_ok_three (Err e) f a b c = tt
