-- `fits` of src/plain.rt meets its contract. Assumes nothing.
use borrow.Author.Tests.{not-true, not-false}
use Rattle.proving.proofs.SettleLaws.{fits-none, fits_head}
use Rattle.proving.proofs.plain.fits.Goals as goal

pub returns-then-not-p : goal.returns-then-not-p
returns-then-not-p c = fits-none (not-true c.args.p.headed c.if-not-p.true)

pub returns : goal.returns
returns c = fits_head (not-false c.args.p.headed c.if-not-p.false) c.same_atoms.ensures
