use Rattle.std.proofs.Common.{◌≡◌, ℕ, ◌+◌, ◌-◌, ◌≤◌, List, ◌++◌, rules, length, take, drop, sym, ap, ◌∙◌, subst, le_refl, drop_at, length-take-le}
use Rattle.std.proofs.lemmas.Slice.{take-put_mid_below}
use Rattle.std.specs.Io.KnownBytes.{Consumes}
use Rattle.std.proofs.KnownBytes.{Consumes-trans}
use borrow.Rule.Slice.PartMut.{put_mid, post_of}
use lib.Seq.{take-add, take-append-le}
use Rattle.intake.proofs.read_full.Goals as goal

-- what stands at the front after n bytes more were read behind the first a
front : (a k n : ℕ) (xs ys : List ℕ) → a ≤ length xs → n ≤ length ys → take (a + n) (put_mid a k xs ys) ≡ take a xs ++ take n ys
front a k n xs ys within fits =
    let new : List ℕ = put_mid a k xs ys in
    let after = post_of a k xs in
    take-add a n new
    ∙ ap (λ l. l ++ take n (drop a new)) (take-put_mid_below _ _ _ _ _ (le_refl _) within)
    ∙ ap (λ l. take a xs ++ take n l) (drop_at (take a xs) (ys ++ after) a (length-take-le a xs within))
    ∙ ap (λ l. take a xs ++ l) (take-append-le n ys after fits)

pub loop-n-preserved : goal.loop-n-preserved
loop-n-preserved g c =
    let room = length c.loop-n.room in
    let grown = front c.loop-n.n (room - c.loop-n.n) c.in_ok-more.more c.loop-n.room c.read.new.buf c.loop-n.invariant.0 c.in_ok-more.ensures.bound.0 in (
      search rules,
      subst (Consumes _ _) (sym grown) (Consumes-trans _ _ _ _ _ c.loop-n.invariant.1 c.in_ok-more.ensures.bytes.0),
    )
