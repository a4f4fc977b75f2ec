-- What a page shows: a room in which schedules were put shows the line of each, in order. "bad: length, codes".
use Prim.Native.Nat.{ℕ, suc, ◌+◌, ◌*◌, ◌-◌, ◌<◌, ◌≤◌}
use mathlib.Core.List.{List, [], ◌∷◌}
use mathlib.Core.Path.{◌≡◌, refl, ap, ◌∙◌}
use native.Mathlib.Omega.{arith}
use lib.ListN.{length, get_or, replicate, get_or-append}
use Rattle.lines.specs.Base.{byte_at}
use Rattle.search.specs.Shown.{padded, word_put, words_put}
use Rattle.search.proofs.InRoom.{put_long, put_at, rows_below}
use Rattle.pages.specs.ListText.{codes_text, schedule_line, schedules_text, codes_line, bad_line, bad_lines}

-- place at of the room holds a schedule: its length, its codes behind it
pub record HoldsWord (room : List ℕ) (at : ℕ) (w : List ℕ) : Type 0 where
  pub long : byte_at room at ≡ length w
  pub codes : (k : ℕ) → k < length w → byte_at room (at + (k + 1)) ≡ get_or w k 0

-- schedules from number i of the room on
unfoldable pub HoldsWords : List ℕ → ℕ → List (List ℕ) → Type 0
HoldsWords room i [] = Unit {0}
HoldsWords room i (w ∷ ws) = HoldsWord room (i * 25) w × HoldsWords room (i + 1) ws

-- no schedule has more than 24 codes
unfoldable pub Short : List (List ℕ) → Type 0
Short [] = Unit {0}
Short (w ∷ ws) = (length w ≤ 24) × Short ws

codes_shown : (w room : List ℕ) (at : ℕ) → ((k : ℕ) → k < length w → byte_at room (at + k) ≡ get_or w k 0) → codes_text (length w) room at ≡ codes_line w
unfolding codes_text codes_line
codes_shown [] room at h = refl
codes_shown (c ∷ w) room at h =
    let z : at + 0 ≡ at = omega arith in
    let first : byte_at room at ≡ c = rw z at (h 0 (omega arith)) in
    let next : (k : ℕ) → k < length w → byte_at room (at + 1 + k) ≡ get_or w k 0 =
    λ k l. let e : at + 1 + k ≡ at + suc k = omega arith in ap (byte_at room) e ∙ h (suc k) (omega arith) in
    let rest : codes_text (length w) room (at + 1) ≡ codes_line w = codes_shown w room (at + 1) next in
    rw (first, rest)

-- the line of a schedule that the room holds
pub line_shown : (room : List ℕ) (at : ℕ) (w : List ℕ) → HoldsWord room at w → schedule_line room at ≡ bad_line w
unfolding schedule_line bad_line
line_shown room at w h =
    let behind : (k : ℕ) → k < length w → byte_at room (at + 1 + k) ≡ get_or w k 0 =
    λ k l. let e : at + 1 + k ≡ at + (k + 1) = omega arith in ap (byte_at room) e ∙ h.codes k l in
    rw (h.long, codes_shown w room (at + 1) behind)

pub lines_shown : (ws : List (List ℕ)) (room : List ℕ) (i : ℕ) → HoldsWords room i ws → schedules_text (length ws) room i ≡ bad_lines ws
unfolding schedules_text bad_lines HoldsWords
lines_shown [] room i h = refl
lines_shown (w ∷ ws) room i h = rw (line_shown room (i * 25) w h.0, lines_shown ws room (i + 1) h.1)

padded_at : (w : List ℕ) (k : ℕ) → k < length w → get_or (padded w) k 0 ≡ get_or w k 0
unfolding padded
padded_at w k h = get_or-append w (replicate (24 - length w) 0) 0 k h

-- a schedule put in the room is held there
pub put_holds : (l : List ℕ) (i : ℕ) (w : List ℕ) → i * 25 + 25 ≤ length l → length w ≤ 24 → HoldsWord (word_put l i w) (i * 25) w
put_holds l i w g s =
    let z : i * 25 + 0 ≡ i * 25 = omega arith in
    record {
      long = rw z at (put_at l i w 0 s g (omega arith));
      codes = λ k h.
          let e : i * 25 + (k + 1) ≡ i * 25 + suc k = omega arith in
          ap (byte_at (word_put l i w)) e ∙ put_at l i w (suc k) s g (omega arith) ∙ padded_at w k h;
    }

pub words_long : (ws : List (List ℕ)) (l : List ℕ) (i : ℕ) → length (words_put l i ws) ≡ length l
unfolding words_put
words_long [] l i = refl
words_long (w ∷ ws) l i = words_long ws (word_put l i w) (i + 1) ∙ put_long l i w

-- the room holds the schedules that were put there, where it takes them all
pub words_hold : (ws : List (List ℕ)) (l : List ℕ) (i : ℕ) → (i + length ws) * 25 ≤ length l → Short ws → HoldsWords (words_put l i ws) i ws
unfolding words_put HoldsWords Short
words_hold [] l i g s = tt
words_hold (w ∷ ws) l i g s =
    let h : HoldsWord (word_put l i w) (i * 25) w = put_holds l i w (omega arith) s.0 in
    let m : List ℕ = word_put l i w in
    let keeps : (p : ℕ) → p < (i + 1) * 25 → get_or (words_put m (i + 1) ws) p 0 ≡ get_or m p 0 = rows_below ws m (i + 1) in
    let first : HoldsWord (words_put m (i + 1) ws) (i * 25) w =
    record {
      long = keeps (i * 25) (omega arith) ∙ h.long;
      codes = λ k r. keeps (i * 25 + (k + 1)) (omega (arith, s.0)) ∙ h.codes k r;
    } in
    (first, words_hold ws m (i + 1) (omega (arith, put_long l i w)) s.1)

-- so a page shows the schedules that the room took
pub page_shows : (ws : List (List ℕ)) (room : List ℕ) → length ws * 25 ≤ length room → Short ws → schedules_text (length ws) (words_put room 0 ws) 0 ≡ bad_lines ws
page_shows ws room g s = lines_shown ws (words_put room 0 ws) 0 (words_hold ws room 0 (omega arith) s)
