-- `fits` of src/lib.rt: within a file's bytes and within the buffer.
use Rattle.tptp.proofs.PartsLaws.{fits-room, fits-none}
use Rattle.tptp.proofs.fits.Goals as goal

pub returns-then-long-le16384 : goal.returns-then-long-le16384
returns-then-long-le16384 c = fits-room c.args.long c.args.room c.if-long-le16384.true

pub returns-else-long-le16384 : goal.returns-else-long-le16384
returns-else-long-le16384 c = fits-none c.args.long c.args.room c.if-long-le16384.false
