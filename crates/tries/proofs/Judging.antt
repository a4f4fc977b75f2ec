-- A walk judges its claim over records, and writes a record for each code that it enters: what crate `machine` says of records and
-- events is all that is needed.
use Prim.Native.Nat.{ℕ, ◌+◌, ◌*◌, ◌≤◌}
use mathlib.Core.Bool.{true}
use mathlib.Core.List.{List, [], ◌∷◌, ◌++◌}
use mathlib.Core.Path.{◌≡◌, subst}
use native.Mathlib.Omega.{arith}
use lib.ListN.{length}
use Rattle.model.specs.declared.records.Model.{Model}
use Rattle.state.specs.declared.control.Frame.{Frame}
use Rattle.rules.specs.Event.{record_of, record_put}
use Rattle.rules.specs.Happened.{happened_on}
use Rattle.rules.specs.declared.event.Happening.{Happening}
use Rattle.rules.specs.declared.work.Labels.{Labels}
use Rattle.audit.specs.Sound.{SoundModel}
use Rattle.rules.specs.Made.{layout_of}
use Rattle.machine.specs.Claim.{breaks_claim}
use Rattle.machine.specs.Judge.{breaks_on, broken_by}
use Rattle.machine.specs.Recorded.{is_real, Written, HoldsFrom, none, more, Holds}
use Rattle.machine.proofs.Recording.{twelve, put_long, holds_front, holds_put}
use Rattle.machine.proofs.Judged.{breaks_is, broken_is}
use Rattle.machine.proofs.Real.{happened_real, known_ops, short_path}

-- what judging over records gives: records hold events, a record put behind them holds one more, and the test over records is
-- the claim over the events, both of an event that is recorded and of the endings of one that is not yet
pub record Judging (m : Model) : Type 1 where
  pub Holds : List ℕ → List Happening → Type 0
  pub none : (l : List ℕ) → Holds l []
  pub less : (l : List ℕ) (hs : List Happening) (h : Happening) → Holds l (hs ++ (h ∷ [])) → Holds l hs
  pub put : (l : List ℕ) (hs : List Happening) (f : Frame) (k : ℕ) (b : Labels) → length hs * 12 + 12 ≤ length l → Holds l hs →
      Holds (record_put l (length hs) (record_of (happened_on f m.actions m.lengths k b))) (hs ++ (happened_on f m.actions m.lengths k b ∷ []))
  pub long : (l : List ℕ) (i : ℕ) (h : Happening) → length (record_put l i (record_of h)) ≡ length l
  pub judged : (l : List ℕ) (hs : List Happening) (h : Happening) → Holds l (hs ++ (h ∷ [])) → breaks_on l (length hs) m.claim ≡ breaks_claim m.claim hs h
  pub ending : (l : List ℕ) (hs : List Happening) (h : Happening) → Holds l hs → broken_by l (length hs) h.ended m.claim ≡ breaks_claim m.claim hs h

module _ (m : Model) (S : SoundModel m) where
  event_real : (f : Frame) (k : ℕ) (b : Labels) → is_real (happened_on f m.actions m.lengths k b).event ≡ true
  event_real f k b = happened_real (layout_of m) (known_ops m S) f k b

  last_written : {l : List ℕ} {i : ℕ} (hs : List Happening) (h : Happening) → HoldsFrom l i (hs ++ (h ∷ [])) → Written l (i + length hs) h
  last_written {l} {i} [] h (more w r) = subst (λ (j : ℕ). Written l j h) (omega arith) w
  last_written {l} {i} (g ∷ hs) h (more w r) = subst (λ (j : ℕ). Written l j h) (omega arith) (last_written {i = i + 1} hs h r)

  pub judging : length m.claim.path ≡ 4 → Judging m
  unfolding record_of
  judging path = record {
    Holds = Holds;
    none = λ l. none;
    less = λ l hs h r. holds_front hs (h ∷ []) r;
    put = λ l hs f k b room r. holds_put (happened_on f m.actions m.lengths k b) r (event_real f k b) room;
    long = λ l i h. put_long l i (record_of h) (twelve h.event h.ended);
    judged = λ l hs h r.
        breaks_is l m.claim (short_path m S path) (holds_front hs (h ∷ []) r)
        (subst (λ (j : ℕ). Written l j h) (omega arith) (last_written hs h r));
    ending = λ l hs h r. broken_is l m.claim (short_path m S path) r h;
  }
