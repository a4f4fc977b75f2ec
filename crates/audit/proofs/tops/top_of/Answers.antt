-- `audit::tops::top_of` meets its contract: of a term of two parts the library's larger is ours.
use Rattle.terms.proofs.Meaning.{larger_max}
use Rattle.audit.specs.Tops.{top_of}
use Rattle.audit.proofs.tops.top_of.Goals as goal

pub returns-in-Joined : goal.returns-in-Joined
unfolding top_of
returns-in-Joined c =
    rw (
      ← c.shape_of.ensures,
      c.in-Joined.is,
      larger_max,
      ← c.top_at-in-Joined.ensures,
      ← c.top_at-in-Joined-2.ensures,
      c.max.ensures,
    )
