-- `pages::refused::write_refused` meets its contract: the line fits the buffer, and what is written of it is the line.
use mathlib.Core.Path.{◌≡◌, ◌∙◌}
use borrow.Author.Rules.{rules}
use Rattle.lines.specs.Put.{refused_line}
use Rattle.pages.proofs.Fits.{refused_whole}
use Rattle.pages.proofs.refused.write_refused.Goals as goal

pub returns : goal.returns
returns g c =
    let e : c.text.result.now ≡ refused_line c.args.number c.args.line =
    c.text.ensures ∙ refused_whole c.args.number c.args.line _ _ _ (search rules) c.put_refused.ensures.written in
    rw (← e) c.write_all.ensures.bytes
