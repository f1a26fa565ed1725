-- What a view of a frame shows, in the terms of the whole prediction. Assumes nothing.
use Rattle.prediction.specs.Predict.{Source, source}
use Rattle.frames.specs.declared.ref_frame.RefFrame.{RefFrame}

-- the reference that a view lends
abbrev pub frame_source : RefFrame → Source
frame_source f =
    source (record { frame_width = f.frame_width; frame_height = f.frame_height; stride = f.stride; upper_rows = f.upper_rows })
    f.upper.now f.lower.now
