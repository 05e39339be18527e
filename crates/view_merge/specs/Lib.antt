-- To be believed: entries as segments of blocks that give way to one, and a segment's row.
pub mod Given
