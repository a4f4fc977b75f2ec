-- A run, shown on one page: "ok" or "no" for each code tried, then "done". "a 12 gets its no line, then done".
use Rattle.std.specs.Prelude.{ℕ, List, ◌++◌}
use Rattle.model.specs.declared.records.Claim.{Claim}
use Rattle.model.specs.declared.records.Model.{Model}
use Rattle.state.specs.Control.{fresh_control}
use Rattle.machine.specs.Judge.{first_break_on, accepts_on}
use Rattle.runs.specs.Run.{Course, run_on}
use Rattle.lines.specs.Put.{Written, written, put_all}
use Rattle.pages.specs.RunText.{answers_text, done_line}

-- the text of a run of codes after which the answers and the records stand in their tables
unfoldable pub run_text : List ℕ → List ℕ → List ℕ → ℕ → ℕ → Claim → List ℕ
run_text codes ans rs tried events c =
    answers_text tried 0 0 codes ans rs ++ done_line events (accepts_on rs events) (first_break_on rs events c)

-- how many bytes the page has, and the three lent tables as they are left
pub record Told : Type 0 where
  pub bytes : ℕ
  pub answers : List ℕ
  pub records : List ℕ
  pub page : List ℕ

abbrev pub told : ℕ → List ℕ → List ℕ → List ℕ → Told
told n ans rs page = record { bytes = n; answers = ans; records = rs; page = page }

abbrev pub told_at : Written → Course → Told
told_at w r = told w.next r.answers r.records w.buf

abbrev pub told_by : Course → List ℕ → Claim → List ℕ → Told
told_by r codes c page =
    told_at (put_all (run_text codes r.answers r.records r.ran.tried r.ran.events c) (written 0 page)) r

-- the run of a model from its fresh configuration, on the model's own table
unfoldable pub run_page_on : Model → List ℕ → List ℕ → List ℕ → List ℕ → Told
run_page_on m codes ans rs page = told_by (run_on m.lines m (fresh_control m) codes ans rs) codes m.claim page
