pub mod CodecLemmas
