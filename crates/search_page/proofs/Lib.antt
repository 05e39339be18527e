-- Lists that agree, and pages of them; the rows of a view; the page of a search; what filters find; roots' documents; what is
-- given row by row; a page of no hits; a page of hits that stand in order; refusals.
mod Agreeing
mod Rows
mod Paged
mod Filtered
mod Marks
mod Shown
mod Refusals
mod Empty
mod Rising
mod Front
mod Plain
