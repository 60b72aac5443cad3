-- The options of growing at their defaults.
use Rattle.std.specs.Prelude.{None, false}
use Rattle.ov_ids.specs.ParamsState.{params_of}
use Rattle.ov_grow_options.specs.declared.options.GrowOptions.{GrowOptions}
use Rattle.ov_grow_options.specs.declared.options.Order.TheVariants.{Random}
use Rattle.ov_grow_options.specs.declared.options.Crash.TheVariants.{Share as ShareOfNodes}

-- each option at its default
abbrev pub default_options : GrowOptions
default_options = record {
  nodes = 100;
  params = params_of 5 30 6 3 3 4 4;
  seed = 0;
  loss_join = 0;
  loss = 0;
  repeat = 0;
  order = Random;
  pace = None;
  rounds = 3;
  crash = ShareOfNodes 0;
  heal = 2;
  broadcasts = 0;
  sequential = false;
  sender = None;
  detect = false;
}
