-- `extent_of` is the definition in each of its three cases, with the sizes of the forest's part and a layer's opened.
-- Assumes nothing.
use Rattle.std.proofs.Common.{rules}
use Rattle.rules.specs.Forest.{tree_bytes, forest_bytes}
use Rattle.rules.specs.Layers.{chain_bytes, layer_bytes}
use Rattle.rules.specs.Seal.{part_start, part_length}
use Rattle.part_reading.proofs.extent_of.Goals as goal

pub returns-in-Forest-clause-length_value : goal.returns-in-Forest-clause-length_value
unfolding part_length forest_bytes tree_bytes
returns-in-Forest-clause-length_value c = search rules

pub returns-in-Layer-clause-start_value : goal.returns-in-Layer-clause-start_value
unfolding part_start forest_bytes tree_bytes layer_bytes chain_bytes
returns-in-Layer-clause-start_value c = search rules

pub returns-in-Layer-clause-length_value : goal.returns-in-Layer-clause-length_value
unfolding part_length layer_bytes chain_bytes
returns-in-Layer-clause-length_value c = search rules
