-- What a stepper is seen as: a checked process, and the entries that were made of it.
use Rattle.std.specs.Prelude.{List, [], Bool, true, false, Result, Ok, Err}
use Rattle.cqp_syntax.specs.Listing.{Listing, root}
use Rattle.cqp_trace.specs.declared.entry.Entry.{Entry}
use Rattle.cqp_engine.specs.declared.engine.Fit.{Fit}
use Rattle.cqp_engine.specs.declared.engine.Fit.TheVariants.{Made, NoStep, AtLimit}
use Rattle.cqp_engine.specs.Progress.{Progress}
use Rattle.cqp_stepper.specs.Last.{last_of}

-- the process, and its entries
pub record Run : Type 0 where
  pub process : Listing
  pub entries : List Entry

-- nothing was made yet
abbrev pub opened : Listing → Run
opened l = record { process = l; entries = [] }

-- how far it has come
abbrev pub progress_of : Run → Progress
progress_of r = record {
  opening = root r.process;
  entries = r.entries;
  last = last_of (root r.process) r.entries;
}

-- whether an entry that was tried was made
abbrev pub is_made : {E : Type 0} → Result Fit E → Bool
is_made (Ok Made) = true
is_made (Ok NoStep) = false
is_made (Ok AtLimit) = false
is_made (Err e) = false
