use Rattle.std.proofs.Common.{refl}
use Rattle.yard_io.proofs.Untold as untold
use Rattle.yard_io.proofs.real.RealDeskDesk.TheImpl.Goals as goal

pub length-tells : goal.length-tells
length-tells g c = record {
  count = untold.at_ok _ c.result tt;
  same = untold.same;
  tells = refl;
  cause = untold.counted _ _ c.result c.ensures.raised c.ensures.reads;
  writes = c.ensures.writes;
}

pub read-tells : goal.read-tells
read-tells g c = record {
  count = c.ensures.count;
  bytes = untold.at_ok _ c.result tt;
  same = untold.same;
  tells = refl;
  cause = untold.counted _ _ c.result c.ensures.raised c.ensures.reads;
  writes = c.ensures.writes;
}

pub fresh-tells : goal.fresh-tells
fresh-tells g c = record {
  made = untold.at_ok _ c.result (untold.sets c.args.name.now);
  said = refl;
  err = untold.at_err _ c.result untold.same_files;
  tells = refl;
  cause = untold.counted _ _ c.result c.ensures.raised c.ensures.writes;
  reads = c.ensures.reads;
}

pub append-tells : goal.append-tells
append-tells g c = record {
  count = c.ensures.count;
  made = untold.at_ok _ c.result (untold.sets c.args.name.now);
  said = refl;
  err = untold.at_err _ c.result untold.same_files;
  tells = refl;
  cause = untold.counted _ _ c.result c.ensures.raised c.ensures.writes;
  reads = c.ensures.reads;
}

pub say-tells : goal.say-tells
say-tells g c = record {
  count = c.ensures.count;
  said = untold.at_ok _ c.result refl;
  files = untold.same_files;
  err = untold.at_err _ c.result refl;
  tells = refl;
  cause = untold.counted _ _ c.result c.ensures.raised c.ensures.writes;
  reads = c.ensures.reads;
}
