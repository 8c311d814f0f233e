-- What a handle holds: as its box, and by its kind.
use Rattle.std.specs.Prelude.{Option, Some, None, Box}
use Rattle.std.specs.Option.{option_map}
use Rattle.std.specs.Global.{Global}
use Rattle.aec_c.specs.declared.kinds.OpenWorkspace.{OpenWorkspace}
use Rattle.aec_c.specs.declared.kinds.OpenCoder.{OpenCoder}
use Rattle.aec_c.specs.declared.kinds.OpenReader.{OpenReader}
use Rattle.aec_c.specs.declared.kinds.Open.{Open}
use Rattle.aec_c.specs.declared.kinds.Open.TheVariants.{Workspace, Coder, Reader}

-- the value in the box that was taken out of a handle; none if the handle held nothing
abbrev pub value_in : Option (Box Open Global) → Option Open
value_in inside = option_map (λ held. held.value) inside

-- the workspace that a handle holds; none if it holds nothing, or something of another kind
abbrev pub workspace_in : Option Open → Option OpenWorkspace
workspace_in (Some (Workspace w)) = Some w
workspace_in (Some (Coder c)) = None
workspace_in (Some (Reader r)) = None
workspace_in None = None

-- the same for a coder
abbrev pub coder_in : Option Open → Option OpenCoder
coder_in (Some (Workspace w)) = None
coder_in (Some (Coder c)) = Some c
coder_in (Some (Reader r)) = None
coder_in None = None

-- the same for a reader
abbrev pub reader_in : Option Open → Option OpenReader
reader_in (Some (Workspace w)) = None
reader_in (Some (Coder c)) = None
reader_in (Some (Reader r)) = Some r
reader_in None = None
